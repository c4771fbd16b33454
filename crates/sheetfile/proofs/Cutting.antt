-- Lists cut to the lots that a file can hold.
use mathlib.Core.List.{List}
use mathlib.Core.Path.{◌≡◌, ap, subst⁻¹, ◌∙◌}
use Prim.Native.Nat.{ℕ, ◌*◌, ◌≤◌}
use lib.ListN.{length, take}
use lib.Seq.{length-take-le}

pub cut_long : {n m : ℕ} (l : List ℕ) → n ≡ m → m ≤ length l → length (take n l) ≡ m
cut_long {n} {m} l e h = length-take-le n l (subst⁻¹ (λ (k : ℕ). k ≤ length l) e h) ∙ e

pub cut_work : {n m : ℕ} (l : List ℕ) → n ≡ m → 4 * m ≤ length l → length (take (4 * n) l) ≡ 4 * m
cut_work l e h = cut_long l (ap (λ (k : ℕ). 4 * k) e) h
