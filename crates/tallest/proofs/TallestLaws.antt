-- What the call promises (document 02, request 113).
--
--   tallest_answers  == what it answers and leaves where it refuses nothing
--   each_below       == of a call that answers a frame: each node v from 1 up has parent v - 1;
--   laid                layout accepts the table, and answers the same frame under the steep rule;
--   none_larger         no accepted table of n nodes has a wider or a taller fresh steep sheet;
--   as_tall             one has as tall a sheet exactly when it is a chain
use Rattle.std.specs.Prelude.{true, not, List, [], ◌∷◌, ◌↔◌, ◌≡◌, ℕ, ◌-◌, ◌*◌, ◌≤◌, ◌<◌, length}
use Rattle.std.proofs.Common.{sym, ap, ap₂, subst, ◌∙◌, arith, ltb-false, le-ltb, ne_eqb}
use Rattle.std.proofs.lemmas.Bool.{eqb-false}
use Rattle.faults.specs.Numbers.{number}
use Rattle.laws.specs.Refusals.{or_else_second, or_else_none, refuse_no, refuse-none, settle-none, settle-accepted}
use Rattle.laws.specs.Search.{Outcome}
use Rattle.table.specs.Acceptance.{shape_fits, tree_fits, accepting}
use Rattle.table.specs.declared.Limits.{Limits}
use Rattle.table.specs.Table.{parent, all_long, table_fault}
use Rattle.table.specs.TableLaws.{Tree}
use Rattle.slopes.specs.declared.Rule.TheVariants.{Steep}
use Rattle.drawing.specs.Framed.{Framed}
use Rattle.drawing.specs.Framed.{Frame, Refused}
use Rattle.drawing.specs.CallLaws.{refused_no_frame}
use Rattle.drawing.specs.Drawing.{Sheet, lengths_fit, fresh, fresh_sheet, frame, layout}
use Rattle.tallest.proofs.ChainLaws.{tallest_height, chain_frame, frame-within, tall_chain, chain_long}
use Rattle.tallest.proofs.ChainLaws.{chain_parent, chain_rank, chain_tree, chain_chain}
use Rattle.tallest.specs.Tallest.{Table, chain_of, steep_frame, lent_fault, tallest, Chain}

chain_of-frame : (n : ℕ) → 0 < n → steep_frame (chain_of n) ≡ Frame n (tallest_height n)
unfolding steep_frame
chain_of-frame n some =
    chain_frame (chain_tree n some) (chain_chain n some)
    ∙ ap (λ k. Frame k (tallest_height k)) (chain_long n some)

pub tallest_answers : (L : Limits) (n : ℕ) (s : Table) → 0 < n → n ≤ L.nodes
    → all_long n (s.parents ∷ s.ranks ∷ []) ≡ true
    → tallest L n s ≡ record { answer = Frame n (tallest_height n); left = chain_of n }
unfolding tallest lent_fault
tallest_answers L n s some few long =
    settle-none Refused _ (steep_frame (chain_of n)) (chain_of n) (lent_fault L n s)
    (or_else_second _ _ (refuse_no _ 1 0 (ne_eqb n 0 (λ e. omega arith)))
    ∙ or_else_second _ _ (refuse_no _ (number L.many) 0 (le-ltb L.nodes n few))
    ∙ refuse_no _ 3 0 (ap not long))
    ∙ ap (λ (a : Framed). record { answer = a; left = chain_of n }) (chain_of-frame n some)

record Given (L : Limits) (n w h : ℕ) (t : Table) : Type 0 where
  pub some : 0 < n
  pub few : n ≤ L.nodes
  pub table : chain_of n ≡ t
  pub width : n ≡ w
  pub height : tallest_height n ≡ h

given : (L : Limits) (n : ℕ) (s : Table) {w h : ℕ} {t : Table}
    → tallest L n s ≡ record { answer = Frame w h; left = t } → Given L n w h t
unfolding tallest lent_fault
given L n s {w} {h} e =
    let accepted = settle-accepted Refused _ (steep_frame (chain_of n)) (chain_of n) (lent_fault L n s)
    (λ k v. refused_no_frame) e in
    let first = or_else_none _ _ accepted.0 in
    let second = or_else_none _ _ first.1 in
    let some : 0 < n = some_node n (eqb-false _ _ (refuse-none _ 1 0 first.0)) in
    let is : Frame n (tallest_height n) ≡ Frame w h = sym (chain_of-frame n some) ∙ accepted.1 in
    record {
      some = some;
      few = ltb-false _ _ (refuse-none _ (number L.many) 0 second.0);
      table = accepted.2;
      width = cc;
      height = cc;
    }
  where
    some_node : (n : ℕ) → (n ≡ 0 → ⊥) → 0 < n
    some_node n ne = omega arith

------------------------------------------------------------------------
-- The table, and what layout makes of it

chain_laid : (L : Limits) (n : ℕ) (old : Sheet) (work : ℕ) → 0 < n → n ≤ L.nodes
    → lengths_fit (chain_of n).parents old ≡ true → work ≡ 4 * n
    → (layout L (chain_of n).parents (chain_of n).ranks Steep old work).answer ≡ Frame n (tallest_height n)
unfolding layout table_fault steep_frame
chain_laid L n old work some few fits long =
    let tree = chain_tree n some in
    let nodes = chain_long n some in
    let new = fresh_sheet (chain_of n).parents (chain_of n).ranks Steep in
    ap (λ (o : Outcome Framed Sheet). o.answer)
    (settle-none Refused old (frame new.drawing) new _
    (or_else_second _ _ (shape_fits (record {
      some = tree.some;
      few = omega arith;
      ranks = tree.long;
      others = fits;
      work_long = long ∙ ap (λ k. 4 * k) (sym nodes);
    }))
    ∙ tree_fits tree (chain_rank n some 0 some)))
    ∙ chain_of-frame n some

-- a call that answers a frame
module _ (L : Limits) (n : ℕ) (s : Table) {w h : ℕ} {t : Table}
    (answers : tallest L n s ≡ record { answer = Frame w h; left = t }) where
  g : Given L n w h t
  g = given L n s answers

  pub each_below : (v : ℕ) → 0 < v → v < n → parent t.parents v ≡ v - 1
  each_below v a l =
      ap (λ (u : Table). parent u.parents v) (sym g.table) ∙ chain_parent n g.some v l

  pub laid : (old : Sheet) (work : ℕ) → lengths_fit t.parents old ≡ true → work ≡ 4 * n
      → (layout L t.parents t.ranks Steep old work).answer ≡ Frame w h
  laid old work fit long =
      subst (λ (u : Table). lengths_fit u.parents old ≡ true
      → (layout L u.parents u.ranks Steep old work).answer ≡ Frame w h) g.table
      (λ fits. chain_laid L n old work g.some g.few fits long ∙ ap₂ Frame g.width g.height) fit

  ----------------------------------------------------------------------
  -- Any other accepted table of n nodes, at whatever limits

  module _ (M : Limits) (P R : List ℕ) (old : Sheet) (work : ℕ) {a b : ℕ} {new : Sheet}
      (is : layout M P R Steep old work ≡ record { answer = Frame a b; left = new }) (nodes : length P ≡ n) where
    other : Tree P R × (frame (fresh P R Steep) ≡ Frame a b)
    unfolding layout
    other =
        let fault = table_fault M P R (lengths_fit P old) work in
        let accepted = settle-accepted Refused old (frame (fresh P R Steep)) (fresh_sheet P R Steep) fault
        (λ k v. refused_no_frame) is in
        ((accepting M P R (lengths_fit P old) work accepted.0).tree, accepted.1)

    highest : tallest_height (length P) ≡ h
    highest = ap tallest_height nodes ∙ g.height

    pub none_larger : (a ≤ w) × (b ≤ h)
    none_larger =
        let within = frame-within other.0 other.1 in
        (omega (arith, g.width), omega (arith, highest))

    pub as_tall : (b ≡ h) ↔ Chain P
    as_tall = (
      (λ e. tall_chain other.0 other.1 (e ∙ sym highest)),
      (λ chain.
          let same : Frame a b ≡ Frame (length P) (tallest_height (length P)) =
          sym other.1 ∙ chain_frame other.0 chain in
          let tall : b ≡ tallest_height (length P) = cc in
          tall ∙ highest),
    )
