-- Below 2^31 the signed reading is the number itself.
use mir.Syntax.{w32}
use mir.ValLaws.{to_z_pos}
use Rattle.direction.proofs.plus.Goals as goal

pub returns : goal.returns
returns c = to_z_pos w32 c.args.n c.requires
