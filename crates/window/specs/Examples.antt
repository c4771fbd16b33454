-- Points of windows that are easy to get wrong.
use Rattle.std.specs.Prelude.{true, false, [], ◌∷◌, ◌≡◌, refl, negsuc}
use Rattle.std.specs.Float.{fin}
use Rattle.std.specs.Float.Ieee.{fits}
use Rattle.window.specs.Window.{within, inside, Exact}

-- 6/8 is 3 * 2^-2: a float has one significand, an odd one
pub three_quarters_lem : Exact (fin false 3 (negsuc 1)) 6 3
three_quarters_lem = record { format = unfold fits in tt; value = (refl, refl) }

-- the last position of the largest window, (2^31 - 1) / 2^31
pub widest : Exact (fin false 2147483647 (negsuc 30)) 2147483647 31
widest = record { format = unfold fits in tt; value = (refl, refl) }

-- from 1, of side 8: 1 is the first coordinate inside and 8 the last, on either axis
pub edges : inside 1 8 1 1 3 ∷ inside 8 1 1 1 3 ∷ inside 9 1 1 1 3 ∷ inside 1 9 1 1 3 ∷ inside 0 1 1 1 3
    ∷ inside 1 0 1 1 3 ∷ []
    ≡ true ∷ true ∷ false ∷ false ∷ false ∷ false ∷ []
unfolding inside within
edges = refl

-- the far edge is not a number of 32 bits
pub last_numbers : inside 4294967295 4294967294 4294967294 4294967294 1 ≡ true
unfolding inside within
last_numbers = refl
