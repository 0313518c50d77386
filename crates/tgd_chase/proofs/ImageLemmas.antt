-- Images of atoms under bindings that agree.
use Rattle.std.proofs.Common.{◌≡◌, ℕ, List, [], ◌∷◌, map, refl, Contains}
use Rattle.term_core.specs.declared.const_id.ConstId.{ConstId}
use Rattle.rule_core.specs.declared.rules.Arg.{Arg}
use Rattle.rule_core.specs.declared.rules.Arg.TheVariants.{Var, Const}
use Rattle.rule_core.specs.declared.rules.Atom.{Atom}
use Rattle.rule_core.specs.Terms.{TermOf, constant}
use Rattle.rule_core.specs.Match.{value, image}
use Rattle.rule_core.proofs.ListLemmas.{Contains-head, Contains-cons}

module _ {C : Type 0} (name : ConstId → C) where
  -- bindings that agree at the variables of an atom give it one image
  values_agree : (b e : ℕ → TermOf C) (args : List Arg) → ((v : ℕ) → Contains args (Var v) → e v ≡ b v)
      → map (value name e) args ≡ map (value name b) args
  values_agree b e [] h = refl
  values_agree b e (Var v ∷ args) h =
      let first = h v (Contains-head (Var v) args) in
      let rest = values_agree b e args (λ w c. h w (Contains-cons (Var v) (Var w) args c)) in
      λ i. first i ∷ rest i
  values_agree b e (Const k ∷ args) h =
      let rest = values_agree b e args (λ w c. h w (Contains-cons (Const k) (Var w) args c)) in
      λ i. constant (name k) ∷ rest i

  pub images_agree : (b e : ℕ → TermOf C) (atom : Atom) → ((v : ℕ) → Contains atom.args (Var v) → e v ≡ b v)
      → image name e atom ≡ image name b atom
  images_agree b e atom h = λ i. record { relation = atom.relation; terms = values_agree b e atom.args h i }
