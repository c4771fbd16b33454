-- Each return is a case of `Plane`, with the signs that led there.
use Rattle.laws.specs.Signs.{≤≥}
use Rattle.monotone.specs.Plane.{high, low, keep_high, keep_low, keep_along, against_low}
use Rattle.monotone.specs.Plane.{against_high, against_along}
use Rattle.monotone.specs.Cones.{vec}
use Rattle.monotone.proofs.Wide.{above_yes, above_no, below_yes, below_no}
use Rattle.monotone.proofs.step.Goals as goal

pub returns-then-q-lt0 : goal.returns-then-q-lt0
returns-then-q-lt0 c =
    let p = c.cross_product-p in
    let q = c.cross_product-q in
    record {
      after = λ us cone. high (vec c.args.u) cone (above_yes p.ensures p.type_inv c.if-p-gt0.true)
          (below_yes q.ensures q.type_inv c.if-q-lt0.true);
    }

pub returns-then-p-gt0 : goal.returns-then-p-gt0
returns-then-p-gt0 c =
    let p = c.cross_product-p in
    let q = c.cross_product-q in
    record {
      after = λ us cone. keep_high (vec c.args.u) cone (above_yes p.ensures p.type_inv c.if-p-gt0.true)
          (below_no q.ensures q.type_inv c.if-q-lt0.false);
    }

pub returns-then-p-lt0 : goal.returns-then-p-lt0
returns-then-p-lt0 c =
    let p = c.cross_product-p in
    let q = c.cross_product-q in
    record {
      after = λ us cone. low (vec c.args.u) cone (above_yes q.ensures q.type_inv c.if-q-gt0.true)
          (below_yes p.ensures p.type_inv c.if-p-lt0.true);
    }

pub returns-then-q-gt0 : goal.returns-then-q-gt0
returns-then-q-gt0 c =
    let p = c.cross_product-p in
    let q = c.cross_product-q in
    record {
      after = λ us cone. keep_low (vec c.args.u) cone (above_yes q.ensures q.type_inv c.if-q-gt0.true)
          (below_no p.ensures p.type_inv c.if-p-lt0.false);
    }

pub returns-then-p-lt0-2 : goal.returns-then-p-lt0-2
returns-then-p-lt0-2 c =
    let p = c.cross_product-p in
    let q = c.cross_product-q in
    record {
      after = λ us cone. against_low (vec c.args.u) cone (below_yes p.ensures p.type_inv c.if-p-lt0-2.true)
          (above_no q.ensures q.type_inv c.if-q-gt0.false);
    }

pub returns-then-q-lt0-2 : goal.returns-then-q-lt0-2
returns-then-q-lt0-2 c =
    let p = c.cross_product-p in
    let q = c.cross_product-q in
    record {
      after = λ us cone. against_high (vec c.args.u) cone (above_no p.ensures p.type_inv c.if-p-gt0.false)
          (below_yes q.ensures q.type_inv c.if-q-lt0-2.true);
    }

-- no sign decided: both products are zero
pub returns-then-dot_product-gt0 : goal.returns-then-dot_product-gt0
returns-then-dot_product-gt0 c =
    let p = c.cross_product-p in
    let q = c.cross_product-q in
    let dot = c.dot_product in
    record {
      after = λ us cone. keep_along (vec c.args.u) cone
          (≤≥ _ (above_no p.ensures p.type_inv c.if-p-gt0.false) (below_no p.ensures p.type_inv c.if-p-lt0-2.false))
          (≤≥ _ (above_no q.ensures q.type_inv c.if-q-gt0.false) (below_no q.ensures q.type_inv c.if-q-lt0-2.false))
          (above_yes dot.ensures dot.type_inv c.if-dot_product-gt0.true);
    }

pub returns : goal.returns
returns c =
    let p = c.cross_product-p in
    let q = c.cross_product-q in
    let dot = c.dot_product in
    record {
      after = λ us cone. against_along (vec c.args.u) cone
          (≤≥ _ (above_no p.ensures p.type_inv c.if-p-gt0.false) (below_no p.ensures p.type_inv c.if-p-lt0-2.false))
          (≤≥ _ (above_no q.ensures q.type_inv c.if-q-gt0.false) (below_no q.ensures q.type_inv c.if-q-lt0-2.false))
          (above_no dot.ensures dot.type_inv c.if-dot_product-gt0.false);
    }
