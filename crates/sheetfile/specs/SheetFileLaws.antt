-- What is printed for a file, from the reader's answer; and that what is beyond the longest accepted file does not
-- matter.
--
--   Opening B          == what refusals 16, 1, 14 and 17 leave
--   lent_same          == the refusal is the same with the lists that the program lends
--   refused_text       == the text where the reader refuses
--   Taken B X Y        == what the reader leaves where it accepts
--   cut_same           == a file cut after the longest accepted length and one byte gives the same text
use Rattle.std.specs.Prelude.{not, ◌&&◌, List, ◌≡◌, refl, ℕ, ◌+◌, ◌*◌, ◌≤◌, ◌<◌, ltb, eqb, length, get_or, take}
use Rattle.std.proofs.Math.Option.{Option, none, some}
use Rattle.std.proofs.Common.{sym, ap₂, ◌∙◌, arith, length-take-le, get_or-take, eqb-true, ltb-false, ne_eqb, le-ltb}
use Rattle.std.proofs.Math.Path.{ap}
use Rattle.std.proofs.lemmas.Bool.{eqb-false, not-false}
use Rattle.laws.specs.Refusals.{refusal, some_not_none, or_else_first, or_else_second, or_else_none, refuse_yes}
use Rattle.laws.specs.Refusals.{refuse_no, refuse-none}
use Rattle.laws.specs.Search.{Refusal, refuse, ◌or_else◌}
use Rattle.laws.specs.SearchLaws.{length-tabulate}
use Rattle.table.specs.Counted.{Counted}
use Rattle.table.specs.Counted.{Nodes, Refused}
use Rattle.table.specs.Table.{tree_fault, printed}
use Rattle.treefile.specs.TreeFile.{word_at, words, stated_nodes, file_parents, file_ranks, open_fault, Lists, loaded}
use Rattle.treefile.specs.TreeFile.{read_tree, Read}
use Rattle.text.specs.Text.{sheet_of, refusal_of}
use Rattle.sheetfile.specs.SheetFile.{file_fault, places_of_table, text_of, sheet_text, lots_in}

------------------------------------------------------------------------
-- The refusal

or_else_same : (a : Option Refusal) {b c : Option Refusal} → (a ≡ none → b ≡ c) → a or_else b ≡ a or_else c
or_else_same none f = f refl
or_else_same (some r) f = refl

-- where 16, 1, 14 and 17 do not refuse, the length says how many lots there are
lots_stated : (m n : ℕ) → m ≡ 4 + 8 * n → n ≤ printed.nodes → lots_in m ≡ n
unfolding lots_in
lots_stated m n e h = omega arith

open_same : (B : List ℕ) (p r w : ℕ) → p ≡ lots_in (length B) → r ≡ lots_in (length B) → w ≡ 4 * lots_in (length B)
    → open_fault printed B p r w ≡ open_fault printed B (stated_nodes B) (stated_nodes B) (4 * stated_nodes B)
unfolding open_fault
open_same B p r w ep er ew =
    or_else_same (refuse (ltb (length B) 4) 16 0)
    (λ a. or_else_same (refuse (eqb (stated_nodes B) 0) 1 0)
    (λ b. or_else_same (refuse (ltb printed.nodes (stated_nodes B)) 14 0)
    (λ c. or_else_same (refuse (not (eqb (length B) (4 + 8 * stated_nodes B))) 17 0)
    (λ d.
    let long : length B ≡ 4 + 8 * stated_nodes B =
    eqb-true (length B) (4 + 8 * stated_nodes B) (not-false _ (refuse-none _ 17 0 d)) in
    let few : stated_nodes B ≤ printed.nodes = ltb-false printed.nodes (stated_nodes B) (refuse-none _ 14 0 c) in
    let lots : lots_in (length B) ≡ stated_nodes B = lots_stated (length B) (stated_nodes B) long few in
    (λ i. refuse (not (eqb ((ep ∙ lots) i) (stated_nodes B) && (eqb ((er ∙ lots) i) (stated_nodes B)
    && eqb ((ew ∙ ap (λ (x : ℕ). 4 * x) lots) i) (4 * stated_nodes B)))) 3 0)))))

-- the refusal is the same with lists of the lots that the file can hold
pub lent_same : (B : List ℕ) (p r w : ℕ) → p ≡ lots_in (length B) → r ≡ lots_in (length B) → w ≡ 4 * lots_in (length B)
    → open_fault printed B p r w or_else tree_fault (file_parents B) (file_ranks B) ≡ file_fault B
unfolding file_fault
lent_same B p r w ep er ew =
    ap (λ (f : Option Refusal). f or_else tree_fault (file_parents B) (file_ranks B)) (open_same B p r w ep er ew)

pub record Opening (B : List ℕ) : Type 0 where
  pub some : 0 < stated_nodes B
  pub few : stated_nodes B ≤ printed.nodes
  pub long : length B ≡ 4 + 8 * stated_nodes B
  pub lots : lots_in (length B) ≡ stated_nodes B
  pub tree : tree_fault (file_parents B) (file_ranks B) ≡ none

pub opening : (B : List ℕ) → file_fault B ≡ none → Opening B
unfolding file_fault open_fault
opening B e =
    let z = or_else_none _ (tree_fault (file_parents B) (file_ranks B)) e in
    let a = or_else_none (refuse (ltb (length B) 4) 16 0) _ z.0 in
    let b = or_else_none (refuse (eqb (stated_nodes B) 0) 1 0) _ a.1 in
    let c = or_else_none (refuse (ltb printed.nodes (stated_nodes B)) 14 0) _ b.1 in
    let d = or_else_none (refuse (not (eqb (length B) (4 + 8 * stated_nodes B))) 17 0) _ c.1 in
    let long : length B ≡ 4 + 8 * stated_nodes B =
    eqb-true (length B) (4 + 8 * stated_nodes B) (not-false _ (refuse-none _ 17 0 d.0)) in
    let few : stated_nodes B ≤ printed.nodes = ltb-false printed.nodes (stated_nodes B) (refuse-none _ 14 0 c.0) in
    record {
      some = some_lot (stated_nodes B) (eqb-false _ _ (refuse-none _ 1 0 b.0));
      few = few;
      long = long;
      lots = lots_stated (length B) (stated_nodes B) long few;
      tree = z.1;
    }
  where
    some_lot : (n : ℕ) → (n ≡ 0 → ⊥) → 0 < n
    some_lot n ne = omega arith

pub parents_long : (B : List ℕ) → length (file_parents B) ≡ stated_nodes B
unfolding file_parents words
parents_long B = length-tabulate (stated_nodes B) _

pub ranks_long : (B : List ℕ) → length (file_ranks B) ≡ stated_nodes B
unfolding file_ranks words
ranks_long B = length-tabulate (stated_nodes B) _

------------------------------------------------------------------------
-- From the reader's answer

loaded_refused : (f : Option Refusal) (B P R : List ℕ) {k v : ℕ} → (loaded f B P R).answer ≡ Refused k v
    → f ≡ refusal k v
unfolding loaded
loaded_refused none B P R e = absurd (let z : ◌≡◌ {A = ℕ} 0 1 = cc in omega arith)
loaded_refused (some r) B P R {k} {v} e =
    let a : r.number ≡ k = cc in
    let b : r.node ≡ v = cc in
    ap₂ refusal a b

loaded_table : (f : Option Refusal) (B P R : List ℕ) {n : ℕ} → (loaded f B P R).answer ≡ Nodes n → f ≡ none
unfolding loaded
loaded_table none B P R e = refl
loaded_table (some r) B P R e = absurd (let z : ◌≡◌ {A = ℕ} 0 1 = cc in omega arith)

loaded-none : (B P R : List ℕ) → ((loaded none B P R).parents ≡ file_parents B) × ((loaded none B P R).ranks ≡ file_ranks B)
unfolding loaded
loaded-none B P R = (refl, refl)

text_refusal : (f : Option Refusal) (B : List ℕ) {k v : ℕ} → f ≡ refusal k v → text_of f B ≡ refusal_of k v
unfolding text_of
text_refusal f B e = ap (λ (g : Option Refusal). text_of g B) e

-- what the reader leaves where it accepts
pub record Taken (B X Y : List ℕ) : Type 0 where
  pub fault : file_fault B ≡ none
  pub parents : X ≡ file_parents B
  pub ranks : Y ≡ file_ranks B

module _ (B P R W : List ℕ) {X Y Z : List ℕ} {r : Counted} (d : Read printed B P R W X Y Z r)
    (ep : length P ≡ lots_in (length B))
    (er : length R ≡ lots_in (length B)) (ew : length W ≡ 4 * lots_in (length B)) where
  answered : record { answer = r; parents = X; ranks = Y } ≡ loaded (file_fault B) B P R
  unfolding read_tree
  answered =
      d.says
      ∙ ap (λ (f : Option Refusal). loaded f B P R) (lent_same B (length P) (length R) (length W) ep er ew)

  pub refused_text : {k v : ℕ} → r ≡ Refused k v → sheet_text B ≡ refusal_of k v
  unfolding sheet_text
  refused_text e =
      text_refusal (file_fault B) B
      (loaded_refused (file_fault B) B P R (sym (ap (λ (l : Lists). l.answer) answered) ∙ e))

  pub taken : {k : ℕ} → r ≡ Nodes k → Taken B X Y
  taken e =
      let fits : file_fault B ≡ none =
      loaded_table (file_fault B) B P R (sym (ap (λ (l : Lists). l.answer) answered) ∙ e) in
      let left = answered ∙ ap (λ (f : Option Refusal). loaded f B P R) fits in
      record {
        fault = fits;
        parents = ap (λ (l : Lists). l.parents) left ∙ (loaded-none B P R).0;
        ranks = ap (λ (l : Lists). l.ranks) left ∙ (loaded-none B P R).1;
      }

-- the text of an accepted file
pub accepted_text : {B X Y : List ℕ} → Taken B X Y → sheet_text B ≡ sheet_of (places_of_table X Y) (stated_nodes B)
unfolding sheet_text text_of
accepted_text {B} t =
    ap (λ (f : Option Refusal). text_of f B) t.fault
    ∙ (λ i. sheet_of (places_of_table (sym t.parents i) (sym t.ranks i)) (stated_nodes B))

------------------------------------------------------------------------
-- Beyond the longest accepted file

abbrev pub longest : ℕ
longest = 4 + 8 * printed.nodes

-- a longer file is refused by what it states
unfoldable long_fault : ℕ → Option Refusal
long_fault n = refuse (eqb n 0) 1 0 or_else refuse (ltb printed.nodes n) 14 0 or_else refusal 17 0

long_refused : (n : ℕ) → long_fault n ≡ none → ⊥
unfolding long_fault
long_refused n e =
    let a = or_else_none (refuse (eqb n 0) 1 0) _ e in
    some_not_none (or_else_none (refuse (ltb printed.nodes n) 14 0) _ a.1).1

long_open : (B : List ℕ) → longest < length B
    → open_fault printed B (stated_nodes B) (stated_nodes B) (4 * stated_nodes B) ≡ long_fault (stated_nodes B)
unfolding open_fault long_fault
long_open B h =
    or_else_second (refuse (ltb (length B) 4) 16 0) _ (refuse_no _ 16 0 (le-ltb (length B) 4 (omega arith)))
    ∙ or_else_same (refuse (eqb (stated_nodes B) 0) 1 0)
    (λ a. or_else_same (refuse (ltb printed.nodes (stated_nodes B)) 14 0)
    (λ b.
    let few : stated_nodes B ≤ printed.nodes = ltb-false printed.nodes (stated_nodes B) (refuse-none _ 14 0 b) in
    or_else_first _ _ (refuse_yes _ 17 0
    (ap not (ne_eqb (length B) (4 + 8 * stated_nodes B) (λ e. omega arith))))))

long_fault_lem : (B : List ℕ) → longest < length B → file_fault B ≡ long_fault (stated_nodes B)
unfolding file_fault
long_fault_lem B h =
    ap (λ (f : Option Refusal). f or_else tree_fault (file_parents B) (file_ranks B)) (long_open B h)
    ∙ kept (long_fault (stated_nodes B)) (tree_fault (file_parents B) (file_ranks B)) (long_refused (stated_nodes B))
  where
    kept : (f g : Option Refusal) → (f ≡ none → ⊥) → f or_else g ≡ f
    kept none g ne = absurd (ne refl)
    kept (some r) g ne = refl

text_any : (f : Option Refusal) (B C : List ℕ) → (f ≡ none → ⊥) → text_of f B ≡ text_of f C
unfolding text_of
text_any none B C ne = absurd (ne refl)
text_any (some r) B C ne = refl

-- two such files that state the same number of lots get the same text
long_same : (B C : List ℕ) → longest < length B → longest < length C → stated_nodes B ≡ stated_nodes C
    → sheet_text B ≡ sheet_text C
unfolding sheet_text
long_same B C b c e =
    ap (λ (f : Option Refusal). text_of f B) (long_fault_lem B b ∙ ap long_fault e)
    ∙ text_any (long_fault (stated_nodes C)) B C (long_refused (stated_nodes C))
    ∙ sym (ap (λ (f : Option Refusal). text_of f C) (long_fault_lem C c))

-- a file cut one byte after the longest accepted length gives the same text
pub cut_same : (B : List ℕ) → longest < length B → sheet_text (take (longest + 1) B) ≡ sheet_text B
unfolding stated_nodes word_at
cut_same B h =
    long_same (take (longest + 1) B) B (omega (arith, length-take-le (longest + 1) B (omega arith))) h
    (λ i. at 0 (omega arith) i + 256 * at 1 (omega arith) i +
    (65536 * at 2 (omega arith) i + 16777216 * at 3 (omega arith) i))
  where
    at : (k : ℕ) → k < 4 → get_or (take (longest + 1) B) k 0 ≡ get_or B k 0
    at k l = get_or-take (longest + 1) B k 0 (omega arith)
