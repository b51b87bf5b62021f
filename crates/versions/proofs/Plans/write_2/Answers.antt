-- `Plans::write_2` meets its contract: header, plans, the number of nodes, nodes. Assumes nothing.
use Rattle.std.proofs.Common.{◌≡◌, ℕ, List, arith}
use Rattle.output.proofs.Pieces.{and_then, as_one}
use Rattle.versions.specs.Versions.{nodes_before, in_version2}
use Rattle.versions.proofs.Laid.{length_plans, nodes_within}
use Rattle.versions.proofs.Turns.{after_header}
use Rattle.versions.proofs.Plans.write_2.Goals as goal

pub put_count-at-requires : goal.put_count-at-requires
put_count-at-requires c =
    let t = c.args.self.now.table.now in (
      omega (arith, c.requires.nodes, nodes_within t c.args.self.now.n, c.args.self.now.there.small),
      omega (
        arith,
        c.requires.room,
        c.put_numbered-at.ensures.place,
        length_plans t (nodes_before t) c.args.self.now.n c.args.self.now.there.room,
        c.put_numbered-at.auto.output,
        c.put_header.auto.output,
      ),
    )

pub put_nodes-requires : goal.put_nodes-requires
put_nodes-requires c =
    let t = c.args.self.now.table.now in
    omega (
      arith,
      c.requires.nodes,
      c.requires.room,
      c.put_count-at.ensures.place,
      c.put_numbered-at.ensures.place,
      length_plans t (nodes_before t) c.args.self.now.n c.args.self.now.there.room,
      c.put_count-at.auto.output,
      c.put_numbered-at.auto.output,
      c.put_header.auto.output,
    )

pub returns : goal.returns
unfolding in_version2
returns c =
    let t : List ℕ = c.args.self.now.table.now in
    let front = after_header t 2 _ (omega (arith, c.args.self.now.there.room)) c.put_header.ensures c.put_numbered-at.ensures in
    let told : c.args.nodes ≡ nodes_before t c.args.self.now.n = c.requires.nodes in
    as_one (and_then (and_then front c.put_count-at.ensures) c.put_nodes.ensures) (rw (told, c.args.self.now.there.whole))
