use Rattle.std.proofs.Common.{◌≡◌, ◌++◌, ◌∷◌, [], flat_map, chars, sym, ap, ◌∙◌, map-id}
use Rattle.std.proofs.lemmas.Iterator.{YieldsList-from_chars}
use Rattle.std.proofs.lemmas.Iterator.Consumers.{YieldsList-end}
use Rattle.std.proofs.lemmas.Str.{encodes-chars, scalars-chars}
use Rattle.decl_text.specs.Quotes.{in_quotes}
use Rattle.decl_text.proofs.quotes.print_quoted.Goals as goal

pub returns : goal.returns
returns c =
    let end = YieldsList-end (YieldsList-from_chars c.args.text.now c.utf8.text cc) c.loop-c.yielded _ c.loop-c.yielded_by _ _ c.in-None.is c.next.ensures.steps in
    let all : c.loop-c.yielded ≡ chars c.args.text.now = sym (map-id c.loop-c.yielded) ∙ end.0 in (
      chars c.args.text.now,
      record {
        characters_are = scalars-chars c.args.text.now c.utf8.text;
        bytes_are = c.in_ok-push_str.ensures.ok ∙ ap (λ l. l ++ 34 ∷ []) c.loop-c.invariant ∙ ap (λ cs. 34 ∷ (flat_map in_quotes cs ++ 34 ∷ [])) all;
      },
      sym (encodes-chars c.args.text.now c.utf8.text),
    )
