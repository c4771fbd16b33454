-- The largest of what was found so far and an item, item by item, is the largest of all.
use Prim.Native.Nat.{max}
use mathlib.Core.Path.{◌≡◌, ◌∙◌}
use Rattle.std.proofs.Common.{rules}
use Rattle.std.specs.Prelude.{fold}
use Rattle.drawing.proofs.Maximum.{fold_largest}
use Rattle.drawing.proofs.largest_of.Goals as goal

pub returns : goal.returns
returns c =
    let run : c.fold.result ≡ fold (λ a b. max a b) 0 c.args.list.now = search rules in
    run ∙ fold_largest c.args.list.now
