-- A reply of three numbers, or of four, and a point of two positions. A signed local holds bits, so a number is read
-- back from them.
use mathlib.Core.List.{List, [], ◌∷◌}
use mathlib.Core.Path.{◌≡◌, refl, ap, ◌∙◌}
use Prim.Native.Nat.{ℕ, ◌^◌, ◌<◌}
use native.Mathlib.Omega.{arith}
use lib.Ieee.{Float}
use lib.IntN.{ℤ, pos}
use lib.ListN.{length, set}
use lib.Signed.{mag}
use mir.Syntax.{w32, w64}
use mir.Val.{to_z, of_z, SFits}
use mir.Facts.{sfits_to_z, sfits_widen, Fits-of_z}
use mir.ValLaws.{to_z-of_z, to_z_pos}
use Rattle.replies.specs.Replies.{three, four, screen}

pub all_set : (q : List ℤ) (a b c : ℤ) → length q ≡ 3 → set (set (set q 0 a) 1 b) 2 c ≡ three a b c
all_set [] a b c e = absurd (omega arith)
all_set (x ∷ []) a b c e = absurd (omega arith)
all_set (x ∷ y ∷ []) a b c e = absurd (omega arith)
all_set (x ∷ y ∷ z ∷ []) a b c e = refl
all_set (x ∷ y ∷ z ∷ w ∷ q) a b c e = absurd (omega arith)

pub alike : {a b c d e f : ℤ} → a ≡ d → b ≡ e → c ≡ f → three a b c ≡ three d e f
alike p q r = rw p (rw q (rw r refl))

pub all_set_4 : (q : List ℤ) (a b c d : ℤ) → length q ≡ 4 → set (set (set (set q 0 a) 1 b) 2 c) 3 d ≡ four a b c d
all_set_4 [] a b c d e = absurd (omega arith)
all_set_4 (x ∷ q) a b c d e = ap (λ (l : List ℤ). a ∷ l) (all_set q b c d (omega arith))

pub alike_4 : {a b c d e f g h : ℤ} → a ≡ e → b ≡ f → c ≡ g → d ≡ h → four a b c d ≡ four e f g h
alike_4 p q r s = rw p (rw q (rw r (rw s refl)))

pub back : (z : ℤ) → mag z < 2 ^ 63 → to_z w64 (of_z w64 z) ≡ z
back z m = to_z-of_z w64 z (record { sfits = m })

pub back32 : (z : ℤ) → mag z < 2 ^ 31 → to_z w32 (of_z w32 z) ≡ z
back32 z m = to_z-of_z w32 z (record { sfits = m })

pub wider : (z : ℤ) → mag z < 2 ^ 31 → SFits w64 (to_z w32 (of_z w32 z))
wider z m = sfits_widen {w = w32} (tt {0}) (sfits_to_z {w = w32} (Fits-of_z {w = w32} {z = z} (record { sfits = m })))

pub wide : (z : ℤ) → mag z < 2 ^ 31 → to_z w64 (of_z w64 (to_z w32 (of_z w32 z))) ≡ z
wide z m = to_z-of_z w64 (to_z w32 (of_z w32 z)) (wider z m) ∙ back32 z m

pub natural : (n : ℕ) → n < 2 ^ 63 → to_z w64 n ≡ pos n
natural n l = to_z_pos w64 n l

pub both-set : (p : List Float) (a b : Float) → length p ≡ 2 → set (set p 0 a) 1 b ≡ a ∷ b ∷ []
both-set [] a b e = absurd (omega arith)
both-set (x ∷ []) a b e = absurd (omega arith)
both-set (x ∷ y ∷ []) a b e = refl
both-set (x ∷ y ∷ z ∷ p) a b e = absurd (omega arith)

pub both_written : {p q : List Float} {s t : List ℤ} → p ≡ q → s ≡ t → screen p s ≡ screen q t
both_written e f = rw e (rw f refl)
