-- `reachability::judge_within` meets its contract: the tree is linked, and what the search finds is acceptance.
-- Assumes nothing.
use native.Mathlib.Omega.{arith}
use lib.ListN.{length-replicate}
use Rattle.relation.proofs.Pairs.{zeros}
use Rattle.nodes.proofs.Signatures.{written_below}
use Rattle.reachability.proofs.Meaning.{told}
use Rattle.reachability.proofs.judge_within.Goals as goal

pub search-requires : goal.search-requires
search-requires g c =
    let p = c.requires in
    let x = rw c.from-signature.ensures at (c.link_tree.ensures (c.if-not-link_tree.false)) in (
      p.0,
      omega (arith, p.1, p.2),
      omega (arith, p.1, c.parents-2-1.given),
      omega (arith, p.1, c.rights-2-1.given),
      rw length-replicate p.1,
      rw length-replicate p.1,
      written_below _ _ x.0 p.3 x.1,
      zeros g.row.N,
      zeros g.row.N,
    )

pub returns : goal.returns
returns g c =
    λ A k.
    let start = c in
    told A start.args.header start.args.table.now start.args.symbols.now _ _ start.requires.3 k (rw c.from-signature.ensures at (c.link_tree.ensures (c.if-not-link_tree.false))) _
    c.search.ensures c.verdict_of.result c.verdict_of.ensures
