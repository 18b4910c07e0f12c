-- Each example walks as the table says, by one equation that is computed.
-- Assumes nothing.
use mathlib.Core.Path.{◌≡◌, refl}
use mathlib.Core.List.{map}
use lib.Count.{count_trailing_zeros}
use Rattle.relation.specs.Lowest.{lowest_of}
use Rattle.relation.specs.Sets.{member}
use Rattle.nodes.specs.Preorder.{preorder}
use Rattle.links.specs.Links.{parents_from, rights_from, place_in}
use Rattle.steps.specs.Choices.{first_of}
use Rattle.steps.specs.Successors.{successor}
use Rattle.watch.specs.Walk.{walk_from}
use Rattle.watch.specs.Examples.{walked_of, shown, examples}

pub examples-right : map walked_of examples ≡ map shown examples
unfolding examples walk_from successor first_of place_in parents_from rights_from preorder member lowest_of count_trailing_zeros
examples-right = refl
