-- Each example goes wrong where the table says, by one equation that is computed.
-- Assumes nothing.
use mathlib.Core.Path.{◌≡◌, refl}
use mathlib.Core.List.{map}
use Rattle.blocks.specs.Search.{lowest_from}
use Rattle.tags.specs.Classes.{class_of}
use Rattle.grammar.specs.Grammar.{written}
use Rattle.grammar.specs.Pushdown.{step, steps}
use Rattle.grammar.specs.Wrong.{begins, is_text, wrong_at, wrong_place}
use Rattle.grammar.specs.Examples.{Example, bytes_of, shown, examples}

pub examples-right : map (λ (e : Example). wrong_place (bytes_of e)) examples ≡ map shown examples
unfolding examples wrong_place lowest_from wrong_at begins is_text steps step class_of written
examples-right = refl
