-- Demand 3, proved: any list of calls leaves a sheet whose times are 1 + added - taken and on which held edges kept
-- theirs, and of its drawing all the rest follows.
--
--   LimitsFit L   == fresh drawings fit the limits L, which are within those of direction and of the check
--   play .. s cs  == the sheet after a list of single calls
--   tried_leaves  == a call leaves what the single calls that it tries leave
--   run_append    == a list of calls after another
--   demand_3      == the claim at the large limits
--   small_claim   == the claim at those of the small cabinet
use Rattle.std.specs.Prelude.{Bool, cond, ◌↔◌, ◌≡◌, ℕ, ◌+◌, ◌*◌, ◌≤◌, ◌<◌, ℤ}
use Rattle.std.proofs.Math.Bool.{true, false}
use mathlib.Core.List.{List, [], ◌∷◌, ◌++◌, zip_with}
use Rattle.std.proofs.Math.Logic.{⊎_elim}
use Rattle.std.proofs.Math.Option.{Option, none, some}
use Rattle.std.proofs.Math.Path.{refl, sym, ap, subst⁻¹}
use Rattle.std.proofs.Common.{◌∙◌}
use Rattle.std.proofs.Math.Nat.{mul_comm}
use native.Mathlib.Omega.{arith}
use Rattle.std.proofs.Math.Dec.{eqb}
use Rattle.std.proofs.Math.ListN.{length, get_or}
use borrow.Author.Tests.{eq-eqb, le-ltb}
use Rattle.faults.specs.Numbers.{number}
use Rattle.laws.specs.Refusals.{or_else_second, or_else_none, refuse_least_all}
use Rattle.laws.specs.Search.{Refusal, refused_or, Outcome, settle}
use Rattle.laws.specs.Tests.{by_eq, differ, neither_is}
use Rattle.table.specs.Acceptance.{shape_fits, accepting}
use Rattle.table.specs.declared.Limits.{Limits}
use Rattle.table.specs.Paths.{PathRises}
use Rattle.table.specs.Table.{all_long, shape_fault, tree_fault, table_fault, large, small, checked}
use Rattle.table.specs.TableLaws.{Tree}
use Rattle.slopes.specs.declared.Rule.{Rule}
use Rattle.slopes.specs.declared.Slope.{Slope}
use Rattle.slopes.specs.Slopes.{across_of, up_of, edge}
use Rattle.drawing.specs.CallLaws.{settled, layout_sound}
use Rattle.drawing.specs.Framed.{Framed}
use Rattle.drawing.specs.Framed.{Frame}
use Rattle.drawing.specs.Drawing.{Drawing, Sheet, lengths_fit, frame, accepted, path_sum, fresh, fresh_sheet, layout}
use Rattle.drawing.specs.DrawingLaws.{Coordinate, step_of}
use Rattle.drawing.specs.FreshLaws.{Roomy, large_roomy, small_roomy, fresh_once}
use Rattle.drawing.specs.PathLaws.{adds_path, path_cong}
use Rattle.drawing.specs.SheetLaws.{Sound}
use Rattle.stretching.specs.Calls.{Untouched, Stretching}
use Rattle.stretching.proofs.CallLaws.{lengthen_does, shorten_does}
use Rattle.stretching.specs.Stretching.{is_held, lengthen, shorten}
use Rattle.stretching.proofs.StretchLaws.{stretch_counts}
use Rattle.holding.specs.Holding.{entry, hold}
use Rattle.holding.proofs.HoldLaws.{Marking, hold_does, held_here, held_others}
use Rattle.arranging.specs.Arranging.{each_fault, in_turn, lengthen_each}
use Rattle.arranging.specs.Arranged.{Arranged}
use Rattle.arranging.specs.Arranged.{Refused}
use Rattle.direction.specs.Heading.{Along}
use Rattle.direction.specs.Direction.{direction}
use Rattle.direction.proofs.DirectionLaws.{direction_rises, edges_apart}
use Rattle.monotone.specs.declared.Verdict.{Verdict}
use Rattle.monotone.specs.declared.Verdict.TheVariants.{Monotone}
use Rattle.monotone.specs.Monotone.{HasDirection, place_beyond, check_fault, Says}
use Rattle.monotone.specs.MonotoneLaws.{says_one}
use Rattle.claim.specs.Claim.{Single, Lengthen, Shorten, Hold, Call, One, LengthenEach, adds, takes, frees}
use Rattle.claim.specs.Claim.{make, leaves, until_refused, tried, run, singles, total, added, taken, freed}
use Rattle.claim.specs.Claim.{length_of, Assured, Claim}

pub record LimitsFit (L : Limits) : Type 0 where
  pub roomy : Roomy L
  pub few : L.nodes ≤ large.nodes
  pub near : L.place ≤ checked.place

------------------------------------------------------------------------
-- One call

-- a call that does not free z, and is about z, holds it
not_freed : (on : Bool) (v z : ℕ) → v ≡ z → ◌≡◌ {A = ℕ} (cond on 0 (cond (eqb v z) 1 0)) 0 → on ≡ true
not_freed true v z e f = refl
not_freed false v z e f = absurd (omega (arith, ap {B = ℕ} (λ b. cond b 1 0) (eq-eqb v z e)))

module _ (L : Limits) (P R : List ℕ) (rule : Rule) where
  -- what a call counts for z: its count if it is accepted
  share : (Single → ℕ → ℕ) → Sheet → Single → ℕ → ℕ
  share what s c z = cond (accepted (make L P R rule s c).answer) (what c z) 0

  -- z is held, and keeps its times
  abbrev pub Keeps : Sheet → Sheet → ℕ → Type 0
  Keeps s t z = (is_held t z ≡ true) × (get_or t.drawing.times z 0 ≡ get_or s.drawing.times z 0)

  record Step (s : Sheet) (c : Single) : Type 0 where
    pub sound : Sound L.place P R rule (make L P R rule s c).left
    pub times : (z : ℕ) → z < length P
        → get_or (make L P R rule s c).left.drawing.times z 0 + share takes s c z
        ≡ get_or s.drawing.times z 0 + share adds s c z
    pub keeps : (z : ℕ) → z < length P → is_held s z ≡ true → share frees s c z ≡ 0
        → Keeps s (make L P R rule s c).left z

  refused_share : (what : Single → ℕ → ℕ) (s : Sheet) (c : Single) (z : ℕ) → Untouched s (make L P R rule s c)
      → share what s c z ≡ 0
  unfolding share accepted
  refused_share what s c z u = rw u.answer refl

  accepted_share : (what : Single → ℕ → ℕ) (s : Sheet) (c : Single) (z : ℕ)
      → (make L P R rule s c).answer ≡ frame (make L P R rule s c).left.drawing → share what s c z ≡ what c z
  unfolding share accepted frame
  accepted_share what s c z e = rw e refl

  untouched_step : (s : Sheet) (c : Single) → Sound L.place P R rule s → Untouched s (make L P R rule s c) → Step s c
  untouched_step s c d u = record {
    sound = subst⁻¹ (Sound L.place P R rule) u.left d;
    times = λ z l. omega (
      arith,
      ap (λ (t : Sheet). get_or t.drawing.times z 0) u.left,
      refused_share takes s c z u,
      refused_share adds s c z u,
    );
    keeps = λ z l h f. subst⁻¹ (λ t. Keeps s t z) u.left (h, refl);
  }

  -- a stretched edge is free, so a held one is another
  stretched_keeps : (s : Sheet) {v k : ℕ} {a b : Drawing} {o : Outcome Framed Sheet}
      → Stretching L P R rule v k s.held a b o
      → ((z : ℕ) → z < length P → (z ≡ v → ⊥) → get_or o.left.drawing.times z 0 ≡ get_or s.drawing.times z 0)
      → (z : ℕ) → z < length P → is_held s z ≡ true → Keeps s o.left z
  stretched_keeps s m others z l h = (
    ap (λ (H : List ℕ). eqb (get_or H z 0) 1) m.held ∙ h,
    others z l (λ e. differ (ap (λ (w : ℕ). is_held s w) (sym e) ∙ h) m.free),
  )

  step : (s : Sheet) (c : Single) → Sound L.place P R rule s → Step s c
  unfolding make adds takes frees
  step s (Lengthen v k work) d =
      ⊎_elim (untouched_step s (Lengthen v k work) d)
      (λ (m : Stretching L P R rule v k s.held s.drawing (lengthen L P R rule s work v k).left.drawing
      (lengthen L P R rule s work v k)). record {
        sound = m.sound;
        times = λ z l. omega (
          arith,
          stretch_counts m.stretch z l,
          accepted_share adds s (Lengthen v k work) z m.answer,
          accepted_share takes s (Lengthen v k work) z m.answer,
        );
        keeps = λ z l h f. stretched_keeps s m m.stretch.other z l h;
      })
      (lengthen_does L P R rule s work v k)
  step s (Shorten v k work) d =
      ⊎_elim (untouched_step s (Shorten v k work) d)
      (λ (m : Stretching L P R rule v k s.held (shorten L P R rule s work v k).left.drawing s.drawing
      (shorten L P R rule s work v k)). record {
        sound = m.sound;
        times = λ z l. omega (
          arith,
          stretch_counts m.stretch z l,
          accepted_share adds s (Shorten v k work) z m.answer,
          accepted_share takes s (Shorten v k work) z m.answer,
        );
        keeps = λ z l h f. stretched_keeps s m (λ w b ne. sym (m.stretch.other w b ne)) z l h;
      })
      (shorten_does L P R rule s work v k)
  step s (Hold v on work) d =
      ⊎_elim (untouched_step s (Hold v on work) d)
      (λ (m : Marking L P R rule v on s (hold L P R rule s work v on)). record {
        sound = m.sound;
        times = λ z l. omega (
          arith,
          ap (λ (t : Drawing). get_or t.times z 0) m.drawing,
          accepted_share adds s (Hold v on work) z m.answer,
          accepted_share takes s (Hold v on work) z m.answer,
        );
        keeps = λ z l h f. (
          by_eq z v
              (λ e. eq-eqb _ 1 (ap (λ (y : ℕ). get_or (hold L P R rule s work v on).left.held y 0) e
              ∙ held_here m d.held.long
              ∙ ap entry (not_freed on v z (sym e) (sym (accepted_share frees s (Hold v on work) z m.answer) ∙ f))))
              (λ ne. ap (λ (a : ℕ). eqb a 1) (held_others m z ne) ∙ h),
          ap (λ (t : Drawing). get_or t.times z 0) m.drawing,
        );
      })
      (hold_does L P R rule s work v on)

  ------------------------------------------------------------------------
  -- A list of single calls

  unfoldable pub play : Sheet → List Single → Sheet
  play s [] = s
  play s (c ∷ cs) = play (make L P R rule s c).left cs

  -- what a list that leaves t counts, and keeps
  pub record Ran (s : Sheet) (cs : List Single) (t : Sheet) : Type 0 where
    pub sound : Sound L.place P R rule t
    pub times : (z : ℕ) → z < length P
        → get_or t.drawing.times z 0 + total L P R rule takes s cs z
        ≡ get_or s.drawing.times z 0 + total L P R rule adds s cs z
    pub keeps : (z : ℕ) → z < length P → is_held s z ≡ true → total L P R rule frees s cs z ≡ 0 → Keeps s t z

  played : (s : Sheet) (cs : List Single) → Sound L.place P R rule s → Ran s cs (play s cs)
  unfolding play total share
  played s [] d = record { sound = d; times = λ z l. refl; keeps = λ z l h f. (h, refl) }
  played s (c ∷ cs) d =
      let one = step s c d in
      let rest = played (make L P R rule s c).left cs one.sound in
      record {
        sound = rest.sound;
        times = λ z l. omega (arith, one.times z l, rest.times z l);
        keeps = λ z l h f.
            let now = one.keeps z l h (omega arith) in
            let then = rest.keeps z l now.0 (omega arith) in
            (then.0, then.1 ∙ now.1);
      }

  play_append : (s : Sheet) (first rest : List Single) → play s (first ++ rest) ≡ play (play s first) rest
  unfolding play
  play_append s [] rest = refl
  play_append s (c ∷ cs) rest = play_append (make L P R rule s c).left cs rest

  ------------------------------------------------------------------------
  -- A list of calls

  -- what an accepted lengthen leaves goes on, and what a refused one leaves stays
  goes_on : (ok : Bool) (o : Outcome Arranged Sheet) (a : Arranged) (t : Sheet) (rest : List Single)
      → o.left ≡ play t rest → (cond ok o (record { answer = a; left = t })).left ≡ play t (cond ok rest [])
  unfolding play
  goes_on true o a t rest e = e
  goes_on false o a t rest e = refl

  turns_leave : (s : Sheet) (place work : ℕ) (lots counts : List ℕ)
      → (in_turn L P R rule work s place lots counts).left
      ≡ play s (until_refused L P R rule s (zip_with (λ v c. Lengthen v c work) lots counts))
  unfolding in_turn until_refused zip_with make play
  turns_leave s place work [] counts = refl
  turns_leave s place work (v ∷ lots) [] = refl
  turns_leave s place work (v ∷ lots) (c ∷ counts) =
      let o = lengthen L P R rule s work v c in
      goes_on (accepted o.answer) _ _ o.left _ (turns_leave o.left (place + 1) work lots counts)

  pub tried_leaves : (s : Sheet) (c : Call) → leaves L P R rule s c ≡ play s (tried L P R rule s c)
  unfolding leaves tried play lengthen_each
  tried_leaves s (One c) = refl
  tried_leaves s (LengthenEach lots counts work) = go (each_fault L P R rule s work lots counts)
    where
      o : Outcome Arranged Sheet
      o = in_turn L P R rule work s 1 lots counts

      all : List Single
      all = zip_with (λ v c. Lengthen v c work) lots counts

      go : (f : Option Refusal) → (settle (λ n v. Refused n v 0) f s o.answer o.left).left
          ≡ play s (refused_or (λ n v. []) f (until_refused L P R rule s all))
      go none = turns_leave s 1 work lots counts
      go (some r) = refl

  run_plays : (s : Sheet) (calls : List Call) → run L P R rule s calls ≡ play s (singles L P R rule s calls)
  unfolding run singles play
  run_plays s [] = refl
  run_plays s (c ∷ cs) =
      run_plays (leaves L P R rule s c) cs
      ∙ ap (λ (t : Sheet). play t (singles L P R rule (leaves L P R rule s c) cs)) (tried_leaves s c)
      ∙ sym (play_append s (tried L P R rule s c) (singles L P R rule (leaves L P R rule s c) cs))

  pub ran : (s : Sheet) (calls : List Call) → Sound L.place P R rule s
      → Ran s (singles L P R rule s calls) (run L P R rule s calls)
  ran s calls d =
      subst⁻¹ (Ran s (singles L P R rule s calls)) (run_plays s calls) (played s (singles L P R rule s calls) d)

  pub run_append : (s : Sheet) (first rest : List Call)
      → run L P R rule s (first ++ rest) ≡ run L P R rule (run L P R rule s first) rest
  unfolding run
  run_append s [] rest = refl
  run_append s (c ∷ cs) rest = run_append (leaves L P R rule s c) cs rest

------------------------------------------------------------------------
-- The claim

-- a table that is accepted at some limits is at all that are wide enough
accepted-within : (L M : Limits) (P R : List ℕ) (long more : Bool) (work : ℕ) → table_fault L P R long work ≡ none
    → length P ≤ M.nodes → more ≡ true → table_fault M P R more (4 * length P) ≡ none
unfolding table_fault
accepted-within L M P R long more work e few lists =
    let both = or_else_none (shape_fault L P R long work) (tree_fault P R) e in
    let s = (accepting L P R long work e).shape in
    or_else_second _ _ (shape_fits {L = M} (record {
      some = s.some;
      few = few;
      ranks = s.ranks;
      others = lists;
      work_long = refl;
    }))
    ∙ both.1

module _ (L : Limits) (fit : LimitsFit L) (P R : List ℕ) (rule : Rule) (long : Bool) (work : ℕ)
    (fine : table_fault L P R long work ≡ none) (tree : Tree P R) (s : Sheet) (calls : List Call)
    (sound : Sound L.place P R rule s)
    (once : (v : ℕ) → v < length P → get_or s.drawing.times v 0 ≡ 1) where
  t : Drawing
  t = (run L P R rule s calls).drawing

  r : Ran L P R rule s (singles L P R rule s calls) (run L P R rule s calls)
  r = ran L P R rule s calls sound

  few : length P ≤ L.nodes
  few = (accepting L P R long work fine).shape.few

  times_are : (z : ℕ) → z < length P → get_or t.times z 0 + taken L P R rule s calls z ≡ 1 + added L P R rule s calls z
  unfolding t added taken
  times_are z l = omega (arith, r.times z l, once z l)

  long_as : (z : ℕ) → z < length P → get_or t.times z 0 ≡ length_of L P R rule s calls z
  unfolding t
  long_as z l = omega (arith, times_are z l)

  -- a coordinate, with the part of a slope that it adds up
  places : (part : Slope → ℕ) (X : List ℕ) → Coordinate L.place P R rule t.times part X → (v : ℕ) → v < length P
      → get_or X v 0 ≡ path_sum P (λ z. part (edge P R rule z) * length_of L P R rule s calls z) v
  unfolding t
  places part X c v l =
      adds_path tree c.adds v l
      ∙ path_cong tree (step_of P R rule part t.times) (λ z. part (edge P R rule z) * length_of L P R rule s calls z)
      (λ z a m. ap (λ (k : ℕ). k * part (edge P R rule z)) (long_as z m) ∙ mul_comm _ _) v l

  stands : Rattle.direction.proofs.RisingPaths.DrawnAlong P (edge P R rule) (λ v. get_or t.times v 0) t.x t.y
  unfolding t edge
  stands = record {
    times_from_1 = λ v a l. r.sound.drawn.some v l;
    at_x = r.sound.drawn.x.adds.at;
    at_y = r.sound.drawn.y.adds.at;
  }

  directed : (u v : ℕ) → u < length P → v < length P
      → (d e : ℤ) × (direction large P R rule (4 * length P) u v ≡ Along d e) × PathRises P t.x t.y d e u v
  directed u v lu lv =
      direction_rises tree rule stands large (4 * length P) u v
      (accepted-within L large P R long true work fine (omega (arith, few, fit.few)) refl) lu lv

  -- the check refuses nothing here
  unrefused : length P ≤ checked.nodes → check_fault checked P R t.x t.y (4 * length P) ≡ none
  unfolding check_fault place_beyond all_long t
  unrefused h =
      or_else_second _ _ (accepted-within L checked P R long _ work fine h lists)
      ∙ refuse_least_all (number checked.far) (length P) (place_beyond checked.place t.x t.y) near
    where
      lists : all_long (length P) (t.x ∷ t.y ∷ []) ≡ true
      lists = rw (eq-eqb _ _ r.sound.drawn.x.long, eq-eqb _ _ r.sound.drawn.y.long) refl

      near : (v : ℕ) → v < length P → place_beyond checked.place t.x t.y v ≡ false
      near v l =
          neither_is
          (le-ltb checked.place (get_or t.x v 0) (omega (arith, r.sound.drawn.x.within v l, fit.near)))
          (le-ltb checked.place (get_or t.y v 0) (omega (arith, r.sound.drawn.y.within v l, fit.near)))

  monotone : length P ≤ checked.nodes → Says checked P R t.x t.y (4 * length P) Monotone
  unfolding Says
  monotone h = (unrefused h, record { directed = pair })
    where
      pair : (u v : ℕ) → u < v → v < length P → HasDirection P t.x t.y u v
      pair u v l b =
          let d = directed u v (omega arith) b in
          record { d = d.0; e = d.1; rises = d.3 }

  says : length P ≤ checked.nodes → (a : Verdict)
      → Says checked P R t.x t.y (4 * length P) a ↔ (a ≡ Monotone)
  says h a = (
    λ c. says_one checked P R t.x t.y (4 * length P) a Monotone c (monotone h),
    λ e. subst⁻¹ (λ (b : Verdict). Says checked P R t.x t.y (4 * length P) b) e (monotone h),
  )

  -- held after the first calls, and not freed by the rest
  kept : (first rest : List Call) → calls ≡ first ++ rest → (v : ℕ) → v < length P
      → is_held (run L P R rule s first) v ≡ true → freed L P R rule (run L P R rule s first) rest v ≡ 0
      → get_or (run L P R rule s calls).drawing.times v 0 ≡ get_or (run L P R rule s first).drawing.times v 0
  unfolding freed
  kept first rest e v l h f =
      ap (λ (u : Sheet). get_or u.drawing.times v 0) (ap (run L P R rule s) e ∙ run_append L P R rule s first rest)
      ∙ ((ran L P R rule (run L P R rule s first) rest (ran L P R rule s first sound).sound).keeps v l h f).1

  pub assured : Assured L P R rule s calls (run L P R rule s calls)
  unfolding t
  assured = record {
    directions = directed;
    no_crossing = edges_apart tree rule stands;
    within = λ v l. (r.sound.drawn.x.within v l, r.sound.drawn.y.within v l);
    taken_least = λ v a l. omega (arith, times_are v l, r.sound.drawn.some v l);
    places_x = places across_of t.x r.sound.drawn.x;
    places_y = places up_of t.y r.sound.drawn.y;
    check = says;
    held = kept;
  }

layout_fine : (L : Limits) (P R : List ℕ) (rule : Rule) (old : Sheet) (work w h : ℕ) (s : Sheet)
    → layout L P R rule old work ≡ record { answer = Frame w h; left = s }
    → table_fault L P R (lengths_fit P old) work ≡ none
unfolding layout
layout_fine L P R rule old work w h s e =
    (settled old (fresh_sheet P R rule) (frame (fresh P R rule)) (table_fault L P R (lengths_fit P old) work) e).0

pub claim : (L : Limits) → LimitsFit L → Claim L
unfolding Claim
claim L fit P R rule old work w h s e calls =
    let l = layout_sound L fit.roomy P R rule old work w h s e in
    assured L fit P R rule (lengths_fit P old) work (layout_fine L P R rule old work w h s e) l.0 s calls l.1
    (λ v b. ap (λ (u : Sheet). get_or u.drawing.times v 0) (sym l.2) ∙ fresh_once l.0 rule v b)

pub large_fits : LimitsFit large
large_fits = record { roomy = large_roomy; few = omega arith; near = omega arith }

pub demand_3 : Claim large
demand_3 = claim large large_fits

pub small_fits : LimitsFit small
small_fits = record { roomy = small_roomy; few = omega arith; near = omega arith }

pub small_claim : Claim small
small_claim = claim small small_fits
