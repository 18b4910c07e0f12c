-- The bytes of places and moves: sorting gives back what a byte is of, so that equal bytes are of equal places and moves. Assumes nothing.
use Rattle.std.proofs.Common.{Some}
use mathlib.Core.Path.{◌≡◌, refl, sym, ap, ◌∙◌}
use Rattle.model.specs.declared.Side.{Side}
use Rattle.model.specs.declared.Place.{Place}
use Rattle.model.specs.declared.Move.{Move}
use Rattle.automaton.specs.Rules.{sort_place, sort_move}
use Rattle.automaton.specs.Payload.{place_byte, move_byte}
use Rattle.automaton.specs.declared.Scope.{Scope}

pub sort-place : (s : Scope) → sort_place (place_byte s) ≡ Some s
unfolding sort_place
sort-place (Scope.Only Place.Root) = refl
sort-place (Scope.Only (Place.Child Side.Left)) = refl
sort-place (Scope.Only (Place.Child Side.Right)) = refl
sort-place Scope.Every = refl

pub sort-move : (m : Move) → sort_move (move_byte m) ≡ Some m
unfolding sort_move
sort-move Move.Stay = refl
sort-move Move.Up = refl
sort-move (Move.Down Side.Left) = refl
sort-move (Move.Down Side.Right) = refl

pub same-scope : (s t : Scope) → place_byte s ≡ place_byte t → s ≡ t
same-scope s t e = let known : Some s ≡ Some t = sym (sort-place s) ∙ ap sort_place e ∙ sort-place t in cc

pub same_move : (μ ν : Move) → move_byte μ ≡ move_byte ν → μ ≡ ν
same_move μ ν e = let known : Some μ ≡ Some ν = sym (sort-move μ) ∙ ap sort_move e ∙ sort-move ν in cc
