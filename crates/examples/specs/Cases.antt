-- Document 01's cases that are marked [proved], as document 02 changes them: one table, and one theorem about the
-- definitions. Frames count grid cells (request 101), the walk to a balanced slope tells its turns (request 104), post
-- numbers come with the first of each subtree (request 107), a lot has a direction to itself (request 109), lines can
-- be held (request 108), lengthens are made by lists (request 105), the small cabinet has limits of its own (request
-- 106), lots are brought to columns (request 110), a number of lots has a tallest sheet (request 113), lengthens are
-- made in any order (request 114), and windows show places (request 103).
--
--   Case          == a case, with what document 01 says of it
--   Holds c       == the definitions say so
--   line ds       == one-digit numbers, one space between, and the line's end
--   cases         == the table, in document 01's order
--   cases-hold    == every case of it holds
use Rattle.std.specs.Prelude.{true, false, List, [], ◌∷◌, ◌++◌, map, ◌≡◌, refl, ℕ, suc, ◌+◌, ◌*◌, ◌^◌, ◌≤◌, T, Float, ℤ}
use Rattle.std.specs.Prelude.{pos, negsuc, neg_ℤ, length}
use Rattle.std.proofs.Math.Option.{none}
use Rattle.std.proofs.Common.{ap, arith}
use Rattle.std.proofs.Math.Nat.{pow-le-pow_right}
use Rattle.std.specs.Float.{binary64, fin}
use Rattle.std.specs.Float.Ieee.{fits}
use Rattle.std.specs.Float.Ieee.Exact.{HasValue}
use Rattle.laws.specs.Refusals.{refusal}
use Rattle.laws.specs.Search.{count, least, tabulate, Outcome}
use Rattle.table.specs.Counted.{Nodes}
use Rattle.table.specs.Table.{climb, leads, is_child, children, is_child_at, child_at, under, steps_up, forest}
use Rattle.table.specs.Table.{postorder}
use Rattle.table.specs.Table.{place, order, post_number, has_number, first_number, large, small, checked}
use Rattle.table.specs.Table.{stray_parent, bad_rank, adrift, all_long, shape_fault, tree_fault, table_fault}
use Rattle.numbers.specs.PostNumbers.{Spans, spans, spans_of, post_numbers}
use Rattle.slopes.specs.declared.Rule.{Rule}
use Rattle.slopes.specs.declared.Rule.TheVariants.{Steep, Balanced}
use Rattle.slopes.specs.declared.Slope.{Slope}
use Rattle.slopes.specs.Bounds.{across_bound, up_bound}
use Rattle.slopes.proofs.SlopeLaws.{levels_for_is}
use Rattle.slopes.specs.Slopes.{levels, level_numbers, flat, upright, level_at, levels_for, slope_at, edge}
use Rattle.slopes.specs.Ten.{◌over◌}
use Rattle.drawing.specs.Framed.{Framed}
use Rattle.drawing.specs.Framed.{Frame, Refused}
use Rattle.drawing.specs.Drawing as drawing
use Rattle.drawing.specs.Drawing.{Sheet, sum_up, path_sum, fresh_places, fresh, largest, frame, accepted, placed}
use Rattle.drawing.specs.Drawing.{node_fits}
use Rattle.drawing.specs.Drawing.{held_fits, lot_fits, sheet_fault, layout, lent}
use Rattle.stretching.specs.Stretching.{moved, stretched, beyond, edge_fault, lot_fault, stretch_fault, lengthen}
use Rattle.stretching.specs.Stretching.{shorten}
use Rattle.holding.specs.Holding.{hold}
use Rattle.arranging.specs.Arranging.{lists_fault, each_fault, at_place, in_turn, lengthen_each}
use Rattle.arranging.specs.Arranged.{Arranged}
use Rattle.arranging.specs.Arranged as arranged
use Rattle.reordering.specs.Reordering.{Lengthening, made, all_accepted, after}
use Rattle.aligning.specs.Aligning as aligning
use Rattle.aligning.specs.AlignLaws.{Obstacle, obstacle_none, beyond-none}
use Rattle.aligning.specs.Aligned.{Aligned}
use Rattle.aligning.specs.Aligned as aligned
use Rattle.tallest.specs.Tallest.{Table, table_of, chain_of, steep_frame, lent_fault, tallest}
use Rattle.tallest.proofs.TallestLaws.{tallest_answers}
use Rattle.window.specs.declared.View.{View}
use Rattle.window.specs.declared.View.TheVariants as view
use Rattle.window.specs.Window as window
use Rattle.window.specs.Window.{greatest, within, inside}
use Rattle.direction.specs.Heading.{Along}
use Rattle.direction.specs.Direction.{sideways, heading, pair_fault, direction}
use Rattle.monotone.specs.declared.Verdict.{Verdict}
use Rattle.monotone.specs.declared.Verdict.TheVariants.{Monotone, Turns}
use Rattle.monotone.proofs.Decision.{widen, span, upward, downward, path_vectors, turns_at, second_node, first_node}
use Rattle.monotone.proofs.Decision.{decide}
use Rattle.monotone.proofs.Decision.{decide_says}
use Rattle.monotone.specs.Monotone.{check_fault, Says}
use Rattle.monotone.specs.Monotone as monotone
use Rattle.treefile.specs.TreeFile.{word_at, words, stated_nodes, file_parents, file_ranks, open_fault}
use Rattle.treefile.specs.TreeFile.{bytes_of, all_bytes, file_of}
use Rattle.text.specs.Text.{digits, decimal, field, space, newline, lot_line, lot_lines, sheet_word, sheet_of}
use Rattle.sheetfile.specs.SheetFile.{file_fault, places_of_table, text_of, sheet_text}

------------------------------------------------------------------------
-- Cases

abbrev five_parents : List ℕ
five_parents = 0 ∷ 0 ∷ 0 ∷ 1 ∷ 1 ∷ []

abbrev five_ranks : List ℕ
five_ranks = 0 ∷ 0 ∷ 1 ∷ 0 ∷ 1 ∷ []

-- whatever the lists hold before
abbrev any_spans : Spans
any_spans = spans (7 ∷ 7 ∷ 7 ∷ 7 ∷ 7 ∷ []) (7 ∷ 7 ∷ 7 ∷ 7 ∷ 7 ∷ [])

pub data Case : Type 0 where
  -- the post numbers of a table's nodes, and the lists of first and last numbers that the call fills with them
  Numbers : List ℕ → List ℕ → Spans → Case
  -- document 01's bounds of a fresh sheet of 1,024 lots, across and up, and that the small cabinet has room for it
  Reaches : Rule → ℕ → ℕ → Case
  -- an outcome of layout, lengthen, shorten or hold: the answer and the sheet
  Calls : Outcome Framed Sheet → Framed → Sheet → Case
  -- an outcome of a list of lengthens: the answer and the sheet
  Arranges : Outcome Arranged Sheet → Arranged → Sheet → Case
  -- lengthens on the five-lot table's fresh sheet that are all accepted: the last one's answer and sheet, or layout's
  Plays : Rule → List Lengthening → Framed → Sheet → Case
  -- what brings a lot of the five-lot table's balanced sheet to a column
  Aligns : Sheet → ℕ → ℕ → Aligned → Case
  -- an outcome of the call for the tallest sheet: the answer and the lists
  Fills : Outcome Framed Table → Framed → Table → Case
  -- the frame of the tallest sheet of n lots, whatever the lists hold
  Tallest : ℕ → ℕ → ℕ → Case
  -- what the window of side 2^m at the corner (a, b) shows of the place (x, y)
  Shows : ℕ → ℕ → ℕ → ℕ → ℕ → View → Case
  -- a window with the exponent m is refused with 18, wherever it is and whatever the place
  TooWide : ℕ → Case
  -- the steep direction of the five-lot table from u to v
  Goes : ℕ → ℕ → ℤ → ℤ → Case
  -- the fractions of levels 1 to k, and how many turns lead to each: one less than its level
  Levels : ℕ → List Slope → List ℕ → Case
  -- the check's answer for a table with its places
  Checks : List ℕ → List ℕ → List ℕ → List ℕ → Verdict → Case
  -- a table's refusal
  Refuses : List ℕ → List ℕ → ℕ → ℕ → Case
  -- what the program `sheet` prints for a table's file
  Prints : List ℕ → List ℕ → List ℕ → Case

-- whatever the lists hold before
abbrev any_five : Sheet
any_five = let l : List ℕ = 7 ∷ 7 ∷ 7 ∷ 7 ∷ 7 ∷ [] in drawing.sheet_of (lent l l l) l

unfoldable pub Holds : Case → Type 0
Holds (Numbers P R s) =
    (tabulate (length P) (post_number P R) ≡ s.last)
    × (post_numbers large P R any_spans (4 * length P) ≡ record { answer = Nodes (length P); left = s })
Holds (Reaches rule across up) =
    (across_bound rule small.nodes ≡ across) × (up_bound rule small.nodes ≡ up)
    × (across ≤ small.place) × (up ≤ small.place)
Holds (Calls o a s) = o ≡ record { answer = a; left = s }
Holds (Arranges o a s) = o ≡ record { answer = a; left = s }
Holds (Plays rule calls a s) =
    let o = layout large five_parents five_ranks rule any_five 20 in
    (all_accepted large five_parents five_ranks rule o.left calls ≡ true)
    × (after large five_parents five_ranks rule o calls ≡ record { answer = a; left = s })
Holds (Aligns s v column r) = aligning.Says large five_parents five_ranks Balanced s 20 v column r
Holds (Fills o a t) = o ≡ record { answer = a; left = t }
Holds (Tallest n width height) =
    (t : Table) → all_long n (t.parents ∷ t.ranks ∷ []) ≡ true → (tallest large n t).answer ≡ Frame width height
Holds (Shows x y a b m r) = window.Says greatest x y a b m r
Holds (TooWide m) = (x y a b : ℕ) → window.Says greatest x y a b m (view.Refused 18 0)
Holds (Goes u v d e) = direction large five_parents five_ranks Steep 20 u v ≡ Along d e
Holds (Levels k l turns) = (levels k flat upright ≡ l) × (tabulate (length l) (λ i. level_at k (suc i)) ≡ map suc turns)
Holds (Checks P R x y r) = Says checked P R x y (4 * length P) r
Holds (Refuses P R k v) = table_fault large P R true (4 * length P) ≡ refusal k v
Holds (Prints P R text) = sheet_text (file_of P R) ≡ text

unfoldable pub AllHold : List Case → Type 0
AllHold [] = Unit {0}
AllHold (c ∷ cs) = Holds c × AllHold cs

------------------------------------------------------------------------
-- Sheets and texts

-- of the five lots: with no line held, and with lot 1's held
abbrev free : List ℕ → List ℕ → List ℕ → Sheet
free times x y = drawing.sheet_of (lent times x y) (0 ∷ 0 ∷ 0 ∷ 0 ∷ 0 ∷ [])

abbrev held_one : List ℕ → List ℕ → List ℕ → Sheet
held_one times x y = drawing.sheet_of (lent times x y) (0 ∷ 1 ∷ 0 ∷ 0 ∷ 0 ∷ [])

abbrev ones : List ℕ
ones = 1 ∷ 1 ∷ 1 ∷ 1 ∷ 1 ∷ []

abbrev five_steep_x : List ℕ
five_steep_x = 0 ∷ 1 ∷ 1 ∷ 2 ∷ 2 ∷ []

abbrev five_steep_y : List ℕ
five_steep_y = 0 ∷ 3 ∷ 4 ∷ 4 ∷ 5 ∷ []

abbrev steep : Sheet
steep = free ones five_steep_x five_steep_y

abbrev five_balanced_x : List ℕ
five_balanced_x = 0 ∷ 3 ∷ 1 ∷ 6 ∷ 5 ∷ []

abbrev five_balanced_y : List ℕ
five_balanced_y = 0 ∷ 2 ∷ 1 ∷ 3 ∷ 3 ∷ []

abbrev balanced : Sheet
balanced = free ones five_balanced_x five_balanced_y

abbrev balanced_held : Sheet
balanced_held = held_one ones five_balanced_x five_balanced_y

abbrev stretched_one : Sheet
stretched_one = free (1 ∷ 3 ∷ 1 ∷ 1 ∷ 1 ∷ []) (0 ∷ 3 ∷ 1 ∷ 4 ∷ 4 ∷ []) (0 ∷ 9 ∷ 4 ∷ 10 ∷ 11 ∷ [])

abbrev stretched_one_held : Sheet
stretched_one_held = let d = stretched_one.drawing in held_one d.times d.x d.y

-- then lot 3 longer by 1
abbrev stretched_both : Sheet
stretched_both = free (1 ∷ 3 ∷ 1 ∷ 2 ∷ 1 ∷ []) (0 ∷ 3 ∷ 1 ∷ 5 ∷ 4 ∷ []) (0 ∷ 9 ∷ 4 ∷ 11 ∷ 11 ∷ [])

-- a lengthen of one of the five lots
infix 70 ◌by◌
abbrev ◌by◌ : ℕ → ℕ → Lengthening
v by c = record { node = v; count = c; work = 20 }

-- lots 1, 3 and 4 longer by 2, 1 and 5
abbrev longer_times : List ℕ
longer_times = 1 ∷ 3 ∷ 1 ∷ 2 ∷ 6 ∷ []

abbrev steep_longer : Sheet
steep_longer = free longer_times (0 ∷ 3 ∷ 1 ∷ 5 ∷ 9 ∷ []) (0 ∷ 9 ∷ 4 ∷ 11 ∷ 21 ∷ [])

abbrev balanced_longer : Sheet
balanced_longer = free longer_times (0 ∷ 9 ∷ 1 ∷ 15 ∷ 21 ∷ []) (0 ∷ 6 ∷ 1 ∷ 8 ∷ 12 ∷ [])

-- lot 1's line held; then lot 3 longer by 2
abbrev steep_held : Sheet
steep_held = held_one ones five_steep_x five_steep_y

abbrev stretched_three : Sheet
stretched_three = held_one (1 ∷ 1 ∷ 1 ∷ 3 ∷ 1 ∷ []) (0 ∷ 1 ∷ 1 ∷ 4 ∷ 2 ∷ []) (0 ∷ 3 ∷ 4 ∷ 6 ∷ 5 ∷ [])

-- lot 3's line held, and moved along with lot 1's
abbrev held_three : List ℕ → List ℕ → List ℕ → Sheet
held_three times x y = drawing.sheet_of (lent times x y) (0 ∷ 0 ∷ 0 ∷ 1 ∷ 0 ∷ [])

-- lot 0 held, and a wrong times of lot 1
abbrev broken_twice : Sheet
broken_twice = drawing.sheet_of (lent (1 ∷ 2 ∷ 1 ∷ 1 ∷ 1 ∷ []) five_steep_x five_steep_y) (1 ∷ 0 ∷ 0 ∷ 0 ∷ 0 ∷ [])

abbrev line : List ℕ → List ℕ
line [] = []
line (d ∷ []) = (48 + d) ∷ newline ∷ []
line (d ∷ (e ∷ ds)) = (48 + d) ∷ space ∷ line (e ∷ ds)

abbrev five_text : List ℕ
five_text =
    (sheet_word ++ line (5 ∷ [])) ++ (line (0 ∷ 0 ∷ 0 ∷ 0 ∷ 0 ∷ []) ++ (line (1 ∷ 1 ∷ 3 ∷ 3 ∷ 2 ∷ [])
    ++ (line (2 ∷ 1 ∷ 4 ∷ 1 ∷ 1 ∷ []) ++ (line (3 ∷ 2 ∷ 4 ∷ 6 ∷ 3 ∷ []) ++ line (4 ∷ 2 ∷ 5 ∷ 5 ∷ 3 ∷ [])))))

abbrev one : List ℕ
one = 0 ∷ []

abbrev two : List ℕ
two = 0 ∷ 0 ∷ []

abbrev fresh_two : Sheet
fresh_two = drawing.sheet_of (lent (1 ∷ 1 ∷ []) (0 ∷ 1 ∷ []) (0 ∷ 1 ∷ [])) two

-- with lot 1 at a place on the diagonal
abbrev far_two : ℕ → Sheet
far_two place = drawing.sheet_of (lent (1 ∷ place ∷ []) (0 ∷ place ∷ []) (0 ∷ place ∷ [])) two

-- a position in a window
abbrev at : Float → Float → View
at across up = view.Shown (record { across = across; up = up })

-- 1 * 2^-2 and 3 * 2^-2
abbrev one_quarter : Float
one_quarter = fin false 1 (negsuc 1)

abbrev three_quarters : Float
three_quarters = fin false 3 (negsuc 1)

abbrev nought : Float
nought = fin false 0 (pos 0)

------------------------------------------------------------------------
-- The table

unfoldable pub cases : List Case
cases =
    -- the five lots
    Numbers five_parents five_ranks (spans (1 ∷ 1 ∷ 4 ∷ 1 ∷ 2 ∷ []) (5 ∷ 3 ∷ 4 ∷ 1 ∷ 2 ∷ []))
    ∷ Calls (layout large five_parents five_ranks Steep any_five 20) (Frame 3 6) steep
    ∷ Calls (layout large five_parents five_ranks Balanced any_five 20) (Frame 7 4) balanced
    ∷ Prints five_parents five_ranks five_text
    -- steep directions
    ∷ Goes 3 2 (neg_ℤ (pos 7)) (pos 2)
    ∷ Goes 2 3 (pos 7) (neg_ℤ (pos 2))
    ∷ Goes 4 3 (pos 3) (neg_ℤ (pos 2))
    ∷ Goes 0 4 (pos 1) (pos 1)
    ∷ Goes 3 3 (pos 1) (pos 1)
    -- lot 1 longer by 2, then shorter by 3 and by 2
    ∷ Calls (lengthen large five_parents five_ranks Steep steep 20 1 2) (Frame 5 12) stretched_one
    ∷ Calls (shorten large five_parents five_ranks Steep stretched_one 20 1 3) (Refused 12 1) stretched_one
    ∷ Calls (shorten large five_parents five_ranks Steep stretched_one 20 1 2) (Frame 3 6) steep
    -- lot 1 longer by 2 and lot 3 by 1, as two calls and as one; with lot 0 between them, which has no edge
    ∷ Calls (lengthen large five_parents five_ranks Steep stretched_one 20 3 1) (Frame 6 12) stretched_both
    ∷ Arranges (lengthen_each large five_parents five_ranks Steep steep 20 (1 ∷ 3 ∷ []) (2 ∷ 1 ∷ []))
    (arranged.Frame 6 12) stretched_both
    ∷ Arranges (lengthen_each large five_parents five_ranks Steep steep 20 (1 ∷ 0 ∷ 3 ∷ []) (2 ∷ 1 ∷ 1 ∷ []))
    (arranged.Refused 10 0 2) stretched_one
    -- lots 1, 3 and 4 longer by 2, 1 and 5 in two orders, under both rules; no lengthen at all
    ∷ Plays Steep (1 by 2 ∷ 3 by 1 ∷ 4 by 5 ∷ []) (Frame 10 22) steep_longer
    ∷ Plays Steep (4 by 5 ∷ 1 by 2 ∷ 3 by 1 ∷ []) (Frame 10 22) steep_longer
    ∷ Plays Balanced (1 by 2 ∷ 3 by 1 ∷ 4 by 5 ∷ []) (Frame 22 13) balanced_longer
    ∷ Plays Balanced (3 by 1 ∷ 4 by 5 ∷ 1 by 2 ∷ []) (Frame 22 13) balanced_longer
    ∷ Plays Steep [] (Frame 3 6) steep
    -- where the order matters: lot 1 shorter by 2 before it is longer by 2; longer by 2 before it is held
    ∷ Calls (shorten large five_parents five_ranks Steep steep 20 1 2) (Refused 12 1) steep
    ∷ Calls (hold large five_parents five_ranks Steep stretched_one 20 1 true) (Frame 5 12) stretched_one_held
    -- a count too few, beside a wrong root; no lengthens at all, of a sheet and of what is none
    ∷ Arranges (lengthen_each large (1 ∷ 0 ∷ 0 ∷ 1 ∷ 1 ∷ []) five_ranks Steep steep 20 (1 ∷ 3 ∷ []) (2 ∷ []))
    (arranged.Refused 19 0 0) steep
    ∷ Arranges (lengthen_each large five_parents five_ranks Steep steep 20 [] []) (arranged.Frame 3 6) steep
    ∷ Arranges (lengthen_each large five_parents five_ranks Steep broken_twice 20 [] []) (arranged.Refused 8 0 0)
    broken_twice
    -- lot 1 held: it is not lengthened, by 0 either, and lot 3 is; freed, it is lengthened by 2 as above
    ∷ Calls (hold large five_parents five_ranks Steep steep 20 1 true) (Frame 3 6) steep_held
    ∷ Calls (lengthen large five_parents five_ranks Steep steep_held 20 1 0) (Refused 22 1) steep_held
    ∷ Calls (shorten large five_parents five_ranks Steep steep_held 20 1 1) (Refused 22 1) steep_held
    ∷ Calls (lengthen large five_parents five_ranks Steep steep_held 20 3 2) (Frame 5 7) stretched_three
    ∷ Calls (hold large five_parents five_ranks Steep steep_held 20 1 false) (Frame 3 6) steep
    -- lot 3 held: it moves with lot 1
    ∷ Calls (lengthen large five_parents five_ranks Steep (held_three ones five_steep_x five_steep_y) 20 1 2) (Frame 5 12)
    (held_three (1 ∷ 3 ∷ 1 ∷ 1 ∷ 1 ∷ []) (0 ∷ 3 ∷ 1 ∷ 4 ∷ 4 ∷ []) (0 ∷ 9 ∷ 4 ∷ 10 ∷ 11 ∷ []))
    -- two lots that break the sheet: the smaller one is named
    ∷ Calls (hold large five_parents five_ranks Steep broken_twice 20 1 true) (Refused 8 0) broken_twice
    -- balanced lot 1, which goes 3 across, to columns: its own and the next that it comes to; two between them, and one
    -- to the left; its own where it is held
    ∷ Aligns balanced 1 3 (aligned.Count 0)
    ∷ Aligns balanced 1 6 (aligned.Count 1)
    ∷ Aligns balanced 1 5 aligned.None
    ∷ Aligns balanced 1 4 aligned.None
    ∷ Aligns balanced 1 2 aligned.None
    ∷ Aligns balanced_held 1 3 aligned.None
    -- the last column that leaves lot 3 below it within the limit; the next, where lot 1 itself would fit; a column
    -- beyond the limit
    ∷ Aligns balanced 1 2147483643 (aligned.Count 715827880)
    ∷ Aligns balanced 1 2147483646 aligned.None
    ∷ Aligns balanced 1 2147483648 aligned.None
    -- lot 0 has no edge
    ∷ Aligns balanced 0 3 (aligned.Refused 10 0)
    -- three balanced levels, and the turns to each slope
    ∷ Levels 3 (1 over 3 ∷ 1 over 2 ∷ 2 over 3 ∷ 1 over 1 ∷ 3 over 2 ∷ 2 over 1 ∷ 3 over 1 ∷ [])
    (2 ∷ 1 ∷ 2 ∷ 0 ∷ 2 ∷ 1 ∷ 2 ∷ [])
    -- one lot
    ∷ Calls (layout large one one Balanced (drawing.sheet_of (lent (9 ∷ []) (9 ∷ []) (9 ∷ [])) (9 ∷ [])) 4) (Frame 1 1)
    (drawing.sheet_of (lent (1 ∷ []) one one) one)
    -- two lots, up to the largest place and one beyond it
    ∷ Calls (lengthen large two two Steep fresh_two 8 1 2147483646) (Frame 2147483648 2147483648)
    (far_two 2147483647)
    ∷ Calls (lengthen large two two Steep fresh_two 8 1 2147483647) (Refused 11 1) fresh_two
    -- the small cabinet: it has room for every fresh sheet; two lots, up to its largest place and one beyond it, and
    -- beyond it already, which is no sheet there
    ∷ Reaches Steep 1023 523776
    ∷ Reaches Balanced 29524 29524
    ∷ Calls (lengthen small two two Steep fresh_two 8 1 1048574) (Frame 1048576 1048576) (far_two 1048575)
    ∷ Calls (lengthen small two two Steep fresh_two 8 1 1048575) (Refused 21 1) fresh_two
    ∷ Calls (lengthen small two two Steep (far_two 1048576) 8 1 0) (Refused 8 1) (far_two 1048576)
    ∷ Calls (lengthen large two two Steep (far_two 1048576) 8 1 0) (Frame 1048577 1048577) (far_two 1048576)
    -- the tallest sheet of one, two and five lots, and of the most; of one more, with empty lists; lists that are too
    -- short for three
    ∷ Fills (tallest large 1 (table_of (7 ∷ []) (7 ∷ []))) (Frame 1 1) (table_of one one)
    ∷ Fills (tallest large 2 (table_of (7 ∷ 7 ∷ []) (7 ∷ 7 ∷ []))) (Frame 2 2) (table_of two two)
    ∷ Fills (tallest large 5 (table_of five_parents five_ranks)) (Frame 5 11)
    (table_of (0 ∷ 0 ∷ 1 ∷ 2 ∷ 3 ∷ []) (0 ∷ 0 ∷ 0 ∷ 0 ∷ 0 ∷ []))
    ∷ Tallest 65536 65536 2147450881
    ∷ Fills (tallest large 65537 (table_of [] [])) (Refused 2 0) (table_of [] [])
    ∷ Fills (tallest large 3 (table_of (7 ∷ 7 ∷ []) (7 ∷ 7 ∷ []))) (Refused 3 0) (table_of (7 ∷ 7 ∷ []) (7 ∷ 7 ∷ []))
    -- (5, 7) in the window of side 4 at (4, 4), and outside the one at (5, 8); the last numbers of 32 bits, where the
    -- largest window begins; no window has the exponent 32
    ∷ Shows 5 7 4 4 2 (at one_quarter three_quarters)
    ∷ Shows 5 7 5 8 2 view.Outside
    ∷ Shows 4294967295 4294967295 4294967295 4294967295 31 (at nought nought)
    ∷ TooWide 32
    -- chains, and two lots at one place
    ∷ Checks (0 ∷ 0 ∷ 1 ∷ 2 ∷ []) (0 ∷ 0 ∷ 0 ∷ 0 ∷ []) (0 ∷ 1 ∷ 1 ∷ 0 ∷ []) (0 ∷ 0 ∷ 1 ∷ 1 ∷ []) (Turns 0 3)
    ∷ Checks (0 ∷ 0 ∷ 1 ∷ []) (0 ∷ 0 ∷ 0 ∷ []) (0 ∷ 1 ∷ 2 ∷ []) (0 ∷ 0 ∷ 0 ∷ []) Monotone
    ∷ Checks two two two two (Turns 0 1)
    -- a loop
    ∷ Refuses (0 ∷ 2 ∷ 1 ∷ []) (0 ∷ 0 ∷ 0 ∷ []) 7 1
    ∷ []

------------------------------------------------------------------------
-- The theorem

says : (P R x y : List ℕ) → Says checked P R x y (4 * length P) (decide checked P R x y (4 * length P))
says P R x y = decide_says checked P R x y (4 * length P)

-- what keeps lot 1 from a column
blocked : (s : Sheet) (column : ℕ) → lot_fault large five_parents five_ranks Balanced s 20 1 ≡ none
    → Obstacle large five_parents five_ranks Balanced s 20 1 column → Holds (Aligns s 1 column aligned.None)
unfolding Holds
blocked s column = obstacle_none large five_parents five_ranks Balanced s 20 1 column

ten-levels : levels_for 1024 ≡ 10
ten-levels =
    levels_for_is 1024 10 (omega arith)
    (λ i l.
    let most : i ≤ 9 = omega arith in
    omega (arith, pow-le-pow_right {n = 2} (omega arith) most))

-- by the formula
most_lots : Holds (Tallest 65536 65536 2147450881)
unfolding Holds
most_lots t long =
    ap (λ (o : Outcome Framed Table). o.answer)
    (tallest_answers large 65536 t (omega arith) (omega arith) long)

reaches : Holds (Reaches Balanced 29524 29524)
unfolding Holds
reaches = rw ten-levels (refl, refl, omega arith, omega arith)

exact : {p : Float} {n m : ℕ} → T (fits binary64 p) → HasValue p false n (2 ^ m) → window.Exact p n m
exact t v = record { format = t; value = v }

infixr 20 ◌and◌
abbrev ◌and◌ : {A B : Type 0} → A → B → A × B
a and b = (a, b)

pub cases-hold : AllHold cases
unfolding AllHold Holds cases count least tabulate climb leads is_child children is_child_at child_at under steps_up forest
    postorder place order post_number has_number first_number spans_of post_numbers stray_parent bad_rank adrift all_long
    shape_fault tree_fault table_fault
    levels level_numbers levels_for slope_at edge sum_up path_sum fresh_places fresh largest frame placed node_fits moved
    held_fits lot_fits stretched beyond sheet_fault edge_fault lot_fault stretch_fault layout lengthen shorten hold accepted
    lists_fault each_fault at_place in_turn lengthen_each made all_accepted after aligning.Says chain_of steep_frame lent_fault
    tallest within inside window.Says fits sideways heading pair_fault direction
    word_at words stated_nodes file_parents file_ranks open_fault bytes_of all_bytes file_of digits decimal field lot_line
    lot_lines sheet_of file_fault places_of_table text_of sheet_text
    monotone.place_beyond check_fault widen span upward downward path_vectors turns_at second_node first_node decide
cases-hold =
    (refl, refl) and refl and refl and refl and refl and refl and refl and refl and refl
    and refl and refl and refl and refl and refl and refl
    and (refl, refl) and (refl, refl) and (refl, refl) and (refl, refl) and (refl, refl) and refl and refl
    and refl and refl and refl and refl
    and refl and refl and refl and refl and refl and refl
    and record { accepted = refl; there = refl } and record { accepted = refl; there = refl }
    and blocked balanced 5 refl (Obstacle.Uneven (λ c e. let is : c * 3 ≡ 2 = e in omega arith))
    and blocked balanced 4 refl (Obstacle.Uneven (λ c e. let is : c * 3 ≡ 1 = e in omega arith))
    and blocked balanced 2 refl (Obstacle.Left (omega arith))
    and blocked balanced_held 3 refl (Obstacle.Held refl)
    and record { accepted = refl; there = refl }
    and blocked balanced 2147483646 refl (Obstacle.Far 715827881 refl refl)
    and beyond-none large five_parents five_ranks Balanced balanced 20 1 2147483648 refl (omega arith)
    and refl
    and (refl, refl) and refl and refl and refl
    and (refl, refl, omega arith, omega arith) and reaches and refl and refl and refl and refl
    and refl and refl and refl and most_lots and refl and refl
    and record { accepted = refl; shown = refl; across = exact tt (refl, refl); up = exact tt (refl, refl) }
    and (refl, refl)
    and record { accepted = refl; shown = refl; across = exact tt (refl, refl); up = exact tt (refl, refl) }
    and (λ x y a b. refl)
    and says (0 ∷ 0 ∷ 1 ∷ 2 ∷ []) (0 ∷ 0 ∷ 0 ∷ 0 ∷ []) (0 ∷ 1 ∷ 1 ∷ 0 ∷ []) (0 ∷ 0 ∷ 1 ∷ 1 ∷ [])
    and says (0 ∷ 0 ∷ 1 ∷ []) (0 ∷ 0 ∷ 0 ∷ []) (0 ∷ 1 ∷ 2 ∷ []) (0 ∷ 0 ∷ 0 ∷ [])
    and says two two two two
    and refl and tt
