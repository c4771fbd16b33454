-- A list of calls, made one after the other: what the calls of the steps that are left leave is what all of them leave.
use mathlib.Core.List.{List}
use mathlib.Core.Path.{◌≡◌, sym, ap, ◌∙◌}
use Prim.Native.Nat.{ℕ, ◌+◌, ◌≤◌, ◌<◌}
use lib.ListN.{length, drop, get_or}
use Rattle.std.proofs.lemmas.List.{at_drop_more, at_drop_all}
use Rattle.laws.specs.Search.{Outcome}
use Rattle.table.specs.declared.Limits.{Limits}
use Rattle.slopes.specs.declared.Rule.{Rule}
use Rattle.drawing.specs.Framed.{Framed}
use Rattle.drawing.specs.Drawing.{Sheet, layout}
use Rattle.claim.specs.declared.Step.{Step}
use Rattle.claim.specs.Claim.{make, leaves, run}
use Rattle.claim.specs.Replay.{call_of, calls_of, after, Replayed}

module _ (L : Limits) (P R : List ℕ) (rule : Rule) (steps : List Step) (work : ℕ) where
  pub rest_more : (t : Sheet) {u : Sheet} {i w : ℕ} (d : Step) → i < length steps → w ≡ work
      → u ≡ (make L P R rule t (call_of (get_or steps i d) w)).left
      → run L P R rule u (calls_of (drop (i + 1) steps) work) ≡ run L P R rule t (calls_of (drop i steps) work)
  unfolding run leaves calls_of
  rest_more t {u} {i} {w} d l same made =
      ap (λ s. run L P R rule s (calls_of (drop (i + 1) steps) work))
      (made ∙ ap (λ m. (make L P R rule t (call_of (get_or steps i d) m)).left) same)
      ∙ sym (at_drop_more (λ rest. run L P R rule t (calls_of rest work)) steps i d l)

  pub rest_none : (t : Sheet) {i : ℕ} → length steps ≤ i → t ≡ run L P R rule t (calls_of (drop i steps) work)
  unfolding run calls_of
  rest_none t {i} l = sym (at_drop_all (λ rest. run L P R rule t (calls_of rest work)) steps i l)

  -- the calls get the work list that layout got
  pub replayed : {s t u : Sheet} {w : ℕ} {a : Framed} → record { answer = a; left = t } ≡ layout L P R rule s work
      → w ≡ work → u ≡ after L P R rule (record { answer = a; left = t }) (calls_of steps w)
      → Replayed L P R rule s work steps u a
  replayed {s} {t} {u} {w} {a} did same all = record {
    answer = ap (λ (o : Outcome Framed Sheet). o.answer) did;
    sheet = all
        ∙ ap (λ m. after L P R rule (record { answer = a; left = t }) (calls_of steps m)) same
        ∙ ap (λ o. after L P R rule o (calls_of steps work)) did;
  }
