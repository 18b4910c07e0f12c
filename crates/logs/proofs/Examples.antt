-- Each example is told as the table says, by one equation that is computed.
-- Assumes nothing.
use mathlib.Core.Path.{◌≡◌, refl}
use mathlib.Core.List.{map}
use Rattle.relation.specs.Sets.{member}
use Rattle.nodes.specs.Preorder.{preorder}
use Rattle.links.specs.Links.{parents_from, rights_from, place_in}
use Rattle.steps.specs.Leads.{leads}
use Rattle.agreement.specs.Common.{common_bytes}
use Rattle.logs.specs.Prefix.{entries_of, run_after, run_prefix}
use Rattle.logs.specs.Examples.{told_by, shown, examples}

pub examples-right : map told_by examples ≡ map shown examples
unfolding examples run_prefix run_after entries_of common_bytes leads place_in parents_from rights_from preorder member
examples-right = refl
