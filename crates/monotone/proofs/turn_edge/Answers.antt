-- Both parts are turned, one store after the other.
use Rattle.monotone.proofs.Turning.{edge_across, edge_up, edge_turned}
use Rattle.monotone.proofs.turn_edge.Goals as goal

pub flip-requires : goal.flip-requires
flip-requires c = edge_across c.args.n c.args.z c.requires.1 c.requires.2 c.requires.0

pub flip-requires-2 : goal.flip-requires-2
flip-requires-2 c = edge_up c.args.n c.args.z c.requires.1 c.requires.2 c.requires.0 c.flip.ensures

pub returns : goal.returns
returns c =
    edge_turned c.args.n c.args.z c.requires.1 c.requires.2 c.requires.0
    c.flip.ensures c.flip-2.ensures
