use Rattle.std.proofs.Common.{◌≡◌, take}
use Rattle.std.specs.List.{flat_map}
use Rattle.decl_text.specs.Canonical.{declaration_text}
use Rattle.mapping_core.proofs.printing.print_relations.Given as goal

abbrev pub invariant-loop-relation : goal.invariant-loop-relation
invariant-loop-relation l = l.text ≡ flat_map (declaration_text l.place) (take l.relation-index l.relations)
