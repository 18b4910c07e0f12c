-- `relation::same_rows` meets its contract: the rows are equal where those at each place are.
-- Assumes nothing.
use borrow.Author.Rules.{rules}
use borrow.Author.Tests.{tests}
use Rattle.std.specs.Bool.{one_answer}
use Rattle.std.proofs.lemmas.Iterator.{YieldsList-from_slice, YieldsList-from_zip, same_from_all}
use Rattle.relation.proofs.Pairs.{same-rows-eq}
use Rattle.relation.proofs.same_rows.Goals as goal

pub returns : goal.returns
returns c =
    one_answer _ _ (same_from_all c.all.new.self _ _ c.args.rows.now c.args.others.now c.all.ensures.ran
    (YieldsList-from_zip (YieldsList-from_slice c.args.rows.now cc) (YieldsList-from_slice c.args.others.now cc))
    (search rules) (λ x q k. search (rules, tests)) (λ x q k. search (rules, tests)))
    (same-rows-eq c.args.rows.now c.args.others.now)
