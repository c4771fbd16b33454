-- Tree files: reading what was written gives the table back, and a file is what writing its table gives.
--
--   stated_back, parents_back, ranks_back   == a written file states n, the parents and the ranks
--   file_back                               == a file of the right length is that of its own table
--   read_written, written_read              == the same of the reader and the writer
use Rattle.std.specs.Prelude.{true, not, List, [], ◌∷◌, ◌++◌, ◌≡◌, ltb, eqb}
use Rattle.std.proofs.Math.Option.{Option, none, some}
use Rattle.std.proofs.Math.Path.{refl, sym, ap}
use Rattle.std.proofs.Common.{ap₂, ◌∙◌, eqb-true, le-ltb, eq-eqb, ne_eqb}
use Prim.Native.Nat.{ℕ, zero, suc, ◌+◌, ◌-◌, ◌*◌, ◌/◌, ◌%◌, ◌^◌, ◌≤◌, ◌<◌}
use Rattle.std.proofs.Math.Nat.{div-div-eq-div-mul}
use native.Mathlib.Omega.{arith}
use Rattle.std.proofs.Math.ListN.{length, get_or, length-append, get_or-append}
use Rattle.std.proofs.Math.Seq.{ext_get_or, get_or-append-add}
use Rattle.std.proofs.lemmas.Bool.{not-false}
use Rattle.faults.specs.Numbers.{number}
use Rattle.laws.specs.Refusals.{or_else_second, or_else_none, refuse_no, refuse-none}
use Rattle.laws.specs.Search.{Refusal, refuse, ◌or_else◌}
use Rattle.laws.specs.SearchLaws.{length-tabulate, get_d_tabulate, tabulate_is}
use Rattle.laws.specs.Tests.{by_lt, both_is}
use Rattle.table.specs.Acceptance.{accepting}
use Rattle.table.specs.Counted.{Nodes, Refused}
use Rattle.table.specs.declared.Limits.{Limits}
use Rattle.table.specs.Table.{shape_fault, tree_fault, table_fault}
use Rattle.treefile.specs.TreeFile.{word_at, words, bytes_of, all_bytes, stated_nodes, file_parents, file_ranks}
use Rattle.treefile.specs.TreeFile.{file_of, open_fault, Lists, loaded, read_tree}

------------------------------------------------------------------------
-- Four bytes

-- by the four places
pub by-four : (X : ℕ → Type 0) → X 0 → X 1 → X 2 → X 3 → (k : ℕ) → k < 4 → X k
by-four X a b c d zero l = a
by-four X a b c d (suc zero) l = b
by-four X a b c d (suc (suc zero)) l = c
by-four X a b c d (suc (suc (suc zero))) l = d
by-four X a b c d (suc (suc (suc (suc k)))) l = absurd (omega arith)

parts : (w a b c d : ℕ) → w < 2 ^ 32 → a ≡ w % 256 → b ≡ w / 256 % 256 → c ≡ w / 65536 % 256 → d ≡ w / 16777216 % 256
    → a + 256 * b + (65536 * c + 16777216 * d) ≡ w
parts w a b c d h ea eb ec ed =
    let low : a + 256 * b + 65536 * (w / 65536) ≡ w = omega arith in
    let d_is : d ≡ w / 65536 / 256 % 256 = ed ∙ ap (λ (x : ℕ). x % 256) (sym (div-div-eq-div-mul w 65536 256)) in
    let high : w / 65536 % 256 + 256 * (w / 65536 / 256 % 256) ≡ w / 65536 = upper (w / 65536) (omega arith) in
    omega arith
  where
    upper : (q : ℕ) → q < 65536 → q % 256 + 256 * (q / 256 % 256) ≡ q
    upper q l = let small : q / 256 < 256 = omega arith in omega arith

-- a number is what its bytes say
pub word_of_bytes : (B : List ℕ) (i w : ℕ) → w < 2 ^ 32 → ((k : ℕ) → k < 4 → get_or B (i + k) 0 ≡ get_or (bytes_of w) k 0)
    → word_at B i ≡ w
unfolding word_at bytes_of
word_of_bytes B i w h e =
    let z : i + 0 ≡ i = omega arith in
    let b : get_or B i 0 ≡ w % 256 = sym (ap (λ (j : ℕ). get_or B j 0) z) ∙ e 0 (omega arith) in
    parts w (get_or B i 0) (get_or B (i + 1) 0) (get_or B (i + 2) 0) (get_or B (i + 3) 0) h b (e 1 (omega arith))
    (e 2 (omega arith))
    (e 3 (omega arith))

-- bytes are those of the number that they make
pub bytes_of_word : (B : List ℕ) (i : ℕ) → ((k : ℕ) → get_or B k 0 < 256)
    → (k : ℕ) → k < 4 → get_or (bytes_of (word_at B i)) k 0 ≡ get_or B (i + k) 0
unfolding word_at bytes_of
bytes_of_word B i h =
    let z : i + 0 ≡ i = omega arith in
    by-four (λ (k : ℕ). get_or (bytes_of (word_at B i)) k 0 ≡ get_or B (i + k) 0)
    (omega (arith, h i, ap (λ (j : ℕ). get_or B j 0) z))
    (omega (arith, h i, h (i + 1)))
    (omega (arith, h i, h (i + 1), h (i + 2)))
    (omega (arith, h i, h (i + 1), h (i + 2), h (i + 3)))

------------------------------------------------------------------------
-- Lists of numbers

pub length_all_bytes : (l : List ℕ) → length (all_bytes l) ≡ 4 * length l
unfolding all_bytes bytes_of
length_all_bytes [] = refl
length_all_bytes (w ∷ l) = omega (arith, length_all_bytes l)

pub length_bytes_of : (w : ℕ) → length (bytes_of w) ≡ 4
unfolding bytes_of
length_bytes_of w = refl

pub byte_at : (l : List ℕ) (v k : ℕ) → v < length l → k < 4
    → get_or (all_bytes l) (4 * v + k) 0 ≡ get_or (bytes_of (get_or l v 0)) k 0
unfolding all_bytes
byte_at [] v k l h = absurd (omega arith)
byte_at (w ∷ l) zero k b h =
    ap (λ (i : ℕ). get_or (bytes_of w ++ all_bytes l) i 0) (omega arith)
    ∙ get_or-append (bytes_of w) (all_bytes l) 0 k (omega (arith, length_bytes_of w))
byte_at (w ∷ l) (suc v) k b h =
    ap (λ (i : ℕ). get_or (bytes_of w ++ all_bytes l) i 0) (further (length (bytes_of w)) (length_bytes_of w))
    ∙ get_or-append-add (bytes_of w) (all_bytes l) (4 * v + k) 0
    ∙ byte_at l v k (omega arith) h
  where
    further : (m : ℕ) → m ≡ 4 → 4 * suc v + k ≡ m + (4 * v + k)
    further m e = omega arith

pub word_at_lem : (l : List ℕ) (v : ℕ) → v < length l → get_or l v 0 < 2 ^ 32 → word_at (all_bytes l) (4 * v) ≡ get_or l v 0
word_at_lem l v b h = word_of_bytes (all_bytes l) (4 * v) (get_or l v 0) h (λ k m. byte_at l v k b m)

------------------------------------------------------------------------
-- Reading what was written

module _ (P R : List ℕ) (ranks : length R ≡ length P) (few : length P < 2 ^ 32)
    (p : (v : ℕ) → v < length P → get_or P v 0 < 2 ^ 32) (r : (v : ℕ) → v < length P → get_or R v 0 < 2 ^ 32) where
  all_long_lem : length (length P ∷ (P ++ R)) ≡ 1 + 2 * length P
  all_long_lem = omega (arith, length-append P R)

  pub length_file : length (file_of P R) ≡ 4 + 8 * length P
  unfolding file_of
  length_file = omega (arith, length_all_bytes (length P ∷ (P ++ R)), all_long_lem)

  pub stated_back : stated_nodes (file_of P R) ≡ length P
  unfolding stated_nodes file_of
  stated_back = word_at_lem (length P ∷ (P ++ R)) 0 (omega arith) few

  parent-at : (v : ℕ) → v < length P → get_or (P ++ R) v 0 ≡ get_or P v 0
  parent-at v l = get_or-append P R 0 v l

  rank-at : (v : ℕ) → v < length P → get_or (P ++ R) (length P + v) 0 ≡ get_or R v 0
  rank-at v l = get_or-append-add P R v 0

  pub parents_back : file_parents (file_of P R) ≡ P
  unfolding file_parents words file_of
  parents_back =
      sym (tabulate_is P (stated_nodes (file_of P R)) _ (sym stated_back) (λ v l.
      let b : v < length P = omega (arith, stated_back) in
      sym (ap (word_at (file_of P R)) (next v)
      ∙ word_at_lem (length P ∷ (P ++ R)) (suc v) (omega (arith, all_long_lem)) (omega (arith, parent-at v b, p v b))
      ∙ parent-at v b)))
    where
      next : (v : ℕ) → 4 + 4 * v ≡ 4 * suc v
      next v = omega arith

  pub ranks_back : file_ranks (file_of P R) ≡ R
  unfolding file_ranks words file_of
  ranks_back =
      sym (tabulate_is R (stated_nodes (file_of P R)) _ (ranks ∙ sym stated_back) (λ v l.
      let b : v < length P = omega (arith, stated_back) in
      sym (ap (word_at (file_of P R)) (next v)
      ∙ word_at_lem (length P ∷ (P ++ R)) (suc (length P + v)) (omega (arith, all_long_lem)) (omega (arith, rank-at v b, r v b))
      ∙ rank-at v b)))
    where
      next : (v : ℕ) → 4 + 4 * stated_nodes (file_of P R) + 4 * v ≡ 4 * suc (length P + v)
      next v = omega (arith, stated_back)

------------------------------------------------------------------------
-- Writing what was read

module _ (B : List ℕ) (bytes : (k : ℕ) → get_or B k 0 < 256) (long : length B ≡ 4 + 8 * stated_nodes B) where
  stated_is : stated_nodes B ≡ word_at B (4 * 0)
  unfolding stated_nodes
  stated_is = refl

  numbers : List ℕ
  numbers = length (file_parents B) ∷ (file_parents B ++ file_ranks B)

  parents_long : length (file_parents B) ≡ stated_nodes B
  unfolding file_parents words
  parents_long = length-tabulate (stated_nodes B) _

  ranks_long : length (file_ranks B) ≡ stated_nodes B
  unfolding file_ranks words
  ranks_long = length-tabulate (stated_nodes B) _

  parent_word : (v : ℕ) → v < stated_nodes B → get_or (file_parents B) v 0 ≡ word_at B (4 + 4 * v)
  unfolding file_parents words
  parent_word v l = get_d_tabulate (stated_nodes B) _ v l

  rank_word : (v : ℕ) → v < stated_nodes B → get_or (file_ranks B) v 0 ≡ word_at B (4 + 4 * stated_nodes B + 4 * v)
  unfolding file_ranks words
  rank_word v l = get_d_tabulate (stated_nodes B) _ v l

  number_at : (v : ℕ) → v < 1 + 2 * stated_nodes B → get_or numbers v 0 ≡ word_at B (4 * v)
  unfolding numbers
  number_at zero l = parents_long ∙ stated_is
  number_at (suc v) l =
      by_lt v (stated_nodes B)
      (λ b.
      get_or-append (file_parents B) (file_ranks B) 0 v (omega (arith, parents_long))
      ∙ parent_word v b ∙ ap (word_at B) (next v))
      (λ b.
      let u : ℕ = v - stated_nodes B in
      ap (λ (x : ℕ). get_or (file_parents B ++ file_ranks B) x 0) (split v b)
      ∙ get_or-append-add (file_parents B) (file_ranks B) (v - stated_nodes B) 0
      ∙ rank_word (v - stated_nodes B) (omega arith) ∙ ap (word_at B) (further v b))
    where
      next : (v : ℕ) → 4 + 4 * v ≡ 4 * suc v
      next v = omega arith

      split : (v : ℕ) → stated_nodes B ≤ v → v ≡ length (file_parents B) + (v - stated_nodes B)
      split v b = omega (arith, parents_long)

      further : (v : ℕ) → stated_nodes B ≤ v → 4 + 4 * stated_nodes B + 4 * (v - stated_nodes B) ≡ 4 * suc v
      further v b = omega arith

  pub file_back : file_of (file_parents B) (file_ranks B) ≡ B
  unfolding file_of numbers
  file_back =
      ext_get_or 0 (all_bytes numbers) B (omega (arith, length_all_bytes numbers, numbers_long)) (λ i l.
      let v : ℕ = i / 4 in
      let k : ℕ = i % 4 in
      let e : i ≡ 4 * (i / 4) + i % 4 = omega arith in
      let b : i / 4 < 1 + 2 * stated_nodes B = omega (arith, length_all_bytes numbers, numbers_long) in
      ap (λ (x : ℕ). get_or (all_bytes numbers) x 0) e
      ∙ byte_at numbers (i / 4) (i % 4) (omega (arith, numbers_long)) (omega arith)
      ∙ ap (λ (w : ℕ). get_or (bytes_of w) (i % 4) 0) (number_at (i / 4) b)
      ∙ bytes_of_word B (4 * (i / 4)) bytes (i % 4) (omega arith)
      ∙ ap (λ (x : ℕ). get_or B x 0) (sym e))
    where
      numbers_long : length numbers ≡ 1 + 2 * stated_nodes B
      numbers_long = omega (arith, length-append (file_parents B) (file_ranks B), parents_long, ranks_long)

------------------------------------------------------------------------
-- The two calls undo each other

no_tree_fault : (L : Limits) (P R : List ℕ) (work : ℕ) → table_fault L P R true work ≡ none → tree_fault P R ≡ none
unfolding table_fault
no_tree_fault L P R work e = (or_else_none (shape_fault L P R true work) (tree_fault P R) e).1

file_long : (L : Limits) (B : List ℕ) (p r work : ℕ) → open_fault L B p r work ≡ none → length B ≡ 4 + 8 * stated_nodes B
unfolding open_fault
file_long L B p r work e =
    let a = or_else_none (refuse (ltb (length B) 4) 16 0) _ e in
    let b = or_else_none (refuse (eqb (stated_nodes B) 0) 1 0) _ a.1 in
    let c = or_else_none (refuse (ltb L.nodes (stated_nodes B)) (number L.many) 0) _ b.1 in
    let d = or_else_none (refuse (not (eqb (length B) (4 + 8 * stated_nodes B))) 17 0) _ c.1 in
    eqb-true (length B) (4 + 8 * stated_nodes B) (not-false _ (refuse-none _ 17 0 d.0))

refused_not_table : {k v n : ℕ} → Refused k v ≡ Nodes n → ⊥
refused_not_table e = let z : ◌≡◌ {A = ℕ} 0 1 = cc in omega arith

-- lent lists of the right lengths get back the table whose file was written
pub read_written : (L : Limits) (P R : List ℕ) (work : ℕ) → table_fault L P R true work ≡ none → length P < 2 ^ 32
    → ((v : ℕ) → v < length P → get_or P v 0 < 2 ^ 32) → ((v : ℕ) → v < length P → get_or R v 0 < 2 ^ 32)
    → (X Y : List ℕ) → length X ≡ length P → length Y ≡ length P
    → read_tree L (file_of P R) X Y work ≡ record { answer = Nodes (length P); parents = P; ranks = R }
unfolding read_tree loaded open_fault
read_written L P R work e few p r X Y ex ey =
    let a = accepting L P R true work e in
    let s = a.shape in
    let stated = stated_back P R s.ranks few p r in
    let long = length_file P R s.ranks few p r in
    let parents = parents_back P R s.ranks few p r in
    let ranks = ranks_back P R s.ranks few p r in
    let fits : open_fault L (file_of P R) (length X) (length Y) work ≡ none =
    or_else_second _ _ (refuse_no _ 16 0 (le-ltb (length (file_of P R)) 4 (omega arith)))
    ∙ or_else_second _ _ (refuse_no _ 1 0 (ne_eqb (stated_nodes (file_of P R)) 0 (λ z. omega arith)))
    ∙ or_else_second _ _ (refuse_no _ (number L.many) 0
    (le-ltb L.nodes (stated_nodes (file_of P R)) (omega arith)))
    ∙ or_else_second _ _ (refuse_no _ 17 0
    (ap not (eq-eqb (length (file_of P R)) (4 + 8 * stated_nodes (file_of P R)) (omega arith))))
    ∙ refuse_no _ 3 0 (ap not (both_is (eq-eqb (length X) (stated_nodes (file_of P R)) (ex ∙ sym stated))
    (both_is (eq-eqb (length Y) (stated_nodes (file_of P R)) (ey ∙ sym stated))
    (eq-eqb work (4 * stated_nodes (file_of P R)) (s.work_long ∙ ap (λ (x : ℕ). 4 * x) (sym stated)))))) in
    let right : tree_fault (file_parents (file_of P R)) (file_ranks (file_of P R)) ≡ none =
    ap₂ tree_fault parents ranks ∙ no_tree_fault L P R work e in
    ap (λ (f : Option Refusal). loaded f (file_of P R) X Y) (or_else_second _ _ fits ∙ right)
    ∙ (λ i. record { answer = Nodes (stated i); parents = parents i; ranks = ranks i })

-- an accepted file is the one that writing its table gives
pub written_read : (L : Limits) (B P R : List ℕ) (work : ℕ) → ((k : ℕ) → get_or B k 0 < 256)
    → (n : ℕ) (X Y : List ℕ) → read_tree L B P R work ≡ record { answer = Nodes n; parents = X; ranks = Y }
    → file_of X Y ≡ B
unfolding read_tree loaded
written_read L B P R work bytes n X Y e =
    go (open_fault L B (length P) (length R) work or_else tree_fault (file_parents B) (file_ranks B)) refl
  where
    go : (f : Option Refusal)
        → open_fault L B (length P) (length R) work or_else tree_fault (file_parents B) (file_ranks B) ≡ f
        → file_of X Y ≡ B
    go none h =
        let open_fits = (or_else_none _ _ h).0 in
        let lists : loaded none B P R ≡ record { answer = Nodes n; parents = X; ranks = Y } =
        sym (ap (λ (f : Option Refusal). loaded f B P R) h) ∙ e in
        ap₂ file_of (sym (ap (λ (l : Lists). l.parents) lists)) (sym (ap (λ (l : Lists). l.ranks) lists))
        ∙ file_back B bytes (file_long L B (length P) (length R) work open_fits)
    go (some f) h =
        let lists : loaded (some f) B P R ≡ record { answer = Nodes n; parents = X; ranks = Y } =
        sym (ap (λ (f : Option Refusal). loaded f B P R) h) ∙ e in
        absurd (refused_not_table (ap (λ (l : Lists). l.answer) lists))
