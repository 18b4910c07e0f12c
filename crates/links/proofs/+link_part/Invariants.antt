-- The measure of `links::link_part`: what is left of the list.
-- Assumes nothing.
use Rattle.std.proofs.Common.{length, ◌-◌}
use Rattle.links.proofs.+link_part.Given as goal

abbrev pub decreases-link_part : goal.decreases-link_part
decreases-link_part l = length l.symbols.now - l.at
