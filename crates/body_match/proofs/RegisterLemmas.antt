-- Entries in look-ups, and beside them.
use Rattle.std.proofs.Common.{◌≡◌, ℕ, ◌<◌, ◌+◌, List, [], ◌∷◌, ◌++◌, length, take, get_or, sym, ap, ◌∙◌, subst, ⊎_elim, Contains, Result, Ok, Err, OnOk}
use Rattle.std.proofs.lemmas.List.{append-nil, take_more}
use Rattle.std.proofs.lemmas.List.Concat.{flat_map-append}
use Rattle.std.proofs.lemmas.List.Elements.{Contains-append_left, Contains-append_right, Contains-append_cases, Contains-push}
use Rattle.rule_core.proofs.ListLemmas.{Contains-nil, Contains-cons_cases}
use Rattle.body_match.specs.declared.lookup.Entry.{Entry}
use Rattle.body_match.specs.declared.lookup.Probe.{Probe}
use Rattle.body_match.specs.Lookup.{Tree, IsSought, HasSought, Keeps, all_in, entries_in}

-- those of one look-up more
pub all_in_more : (lookups : List Tree) (tree : Tree) → all_in (lookups ++ tree ∷ []) ≡ all_in lookups ++ tree.entries
all_in_more lookups tree =
    flat_map-append (λ (t : Tree). t.entries) lookups (tree ∷ []) ∙ ap (λ (l : List Entry). all_in lookups ++ l) (append-nil tree.entries)

-- the last look-up's entries may stand beside the others
pub moved_beside : (lookups : List Tree) (tree : Tree) (last : List Entry) (entry : Entry)
    → Contains (entries_in (lookups ++ tree ∷ []) last) entry → Contains (entries_in lookups (last ++ tree.entries)) entry
moved_beside lookups tree last entry c =
    let split = subst (λ (l : List Entry). Contains (l ++ last) entry) (all_in_more lookups tree) c in
    ⊎_elim
    (λ (front : Contains (all_in lookups ++ tree.entries) entry). ⊎_elim
    (λ (old : Contains (all_in lookups) entry). Contains-append_left (all_in lookups) (last ++ tree.entries) entry old)
    (λ (new : Contains tree.entries entry).
    Contains-append_right (all_in lookups) (last ++ tree.entries) entry (Contains-append_right last tree.entries entry new))
    (Contains-append_cases (all_in lookups) tree.entries entry front))
    (λ (beside : Contains last entry).
    Contains-append_right (all_in lookups) (last ++ tree.entries) entry (Contains-append_left last tree.entries entry beside))
    (Contains-append_cases (all_in lookups ++ tree.entries) last entry split)

-- and what stands beside may be put into a look-up
pub moved_into : (lookups : List Tree) (tree : Tree) (last rest : List Entry) → ((e : Entry) → Contains last e → Contains tree.entries e)
    → (entry : Entry) → Contains (entries_in lookups last) entry → Contains (entries_in (lookups ++ tree ∷ []) rest) entry
moved_into lookups tree last rest into entry c =
    Contains-append_left (all_in (lookups ++ tree ∷ [])) rest entry
    (subst (λ (l : List Entry). Contains l entry) (sym (all_in_more lookups tree))
    (⊎_elim
    (λ (old : Contains (all_in lookups) entry). Contains-append_left (all_in lookups) tree.entries entry old)
    (λ (beside : Contains last entry). Contains-append_right (all_in lookups) tree.entries entry (into entry beside))
    (Contains-append_cases (all_in lookups) last entry c)))

-- what is sought in two lists
pub sought_both : (xs ys : List Entry) (probe : Probe) (old new : List ℕ) → HasSought xs probe old → Keeps old new
    → HasSought ys probe new → HasSought (xs ++ ys) probe new
sought_both xs ys probe old new first kept second entry c sought = ⊎_elim
    (λ (front : Contains xs entry). kept entry.row (first entry front sought))
    (λ (back : Contains ys entry). second entry back sought)
    (Contains-append_cases xs ys entry c)

-- what is sought in one look-up more
pub sought_more : (items : List Tree) (index : ℕ) (tree d : Tree) (probe : Probe) (old new : List ℕ) → index < length items
    → tree ≡ get_or items index d → HasSought (all_in (take index items)) probe old → Keeps old new → HasSought tree.entries probe new
    → HasSought (all_in (take (index + 1) items)) probe new
sought_more items index tree d probe old new within is before kept here =
    let more : take (index + 1) items ≡ take index items ++ tree ∷ [] =
    take_more items index d within ∙ ap (λ (t : Tree). take index items ++ t ∷ []) (sym is) in
    subst (λ (l : List Entry). HasSought l probe new) (sym (ap all_in more ∙ all_in_more (take index items) tree))
    (sought_both (all_in (take index items)) tree.entries probe old new before kept here)

-- what is sought among one entry more
pub beside_more : (items : List Entry) (index : ℕ) (d : Entry) (probe : Probe) (old new : List ℕ) → index < length items
    → HasSought (take index items) probe old → Keeps old new
    → (IsSought probe (get_or items index d) → Contains new (get_or items index d).row) → HasSought (take (index + 1) items) probe new
beside_more items index d probe old new within before kept here =
    subst (λ (l : List Entry). HasSought l probe new) (sym (take_more items index d within))
    (sought_both (take index items) (get_or items index d ∷ []) probe old new before kept (λ entry c sought. ⊎_elim
    (λ (e : get_or items index d ≡ entry). subst (λ (x : Entry). IsSought probe x → Contains new x.row) e here sought)
    (λ (none : Contains [] entry). absurd (Contains-nil entry none))
    (Contains-cons_cases (get_or items index d) entry [] c)))

-- one entry more beside the look-ups
pub kept_beside : (lookups : List Tree) (last pushed : List Entry) (entry : Entry) → pushed ≡ last ++ entry ∷ [] → (other : Entry)
    → Contains (entries_in lookups last) other → Contains (entries_in lookups pushed) other
kept_beside lookups last pushed entry is other c = subst (λ (l : List Entry). Contains (entries_in lookups l) other) (sym is) (⊎_elim
    (λ (front : Contains (all_in lookups) other). Contains-append_left (all_in lookups) (last ++ entry ∷ []) other front)
    (λ (back : Contains last other).
    Contains-append_right (all_in lookups) (last ++ entry ∷ []) other (Contains-append_left last (entry ∷ []) other back))
    (Contains-append_cases (all_in lookups) last other c))

pub added_beside : (lookups : List Tree) (last pushed : List Entry) (entry : Entry) → pushed ≡ last ++ entry ∷ []
    → Contains (entries_in lookups pushed) entry
added_beside lookups last pushed entry is = subst (λ (l : List Entry). Contains (entries_in lookups l) entry) (sym is)
    (Contains-append_right (all_in lookups) (last ++ entry ∷ []) entry (Contains-push last entry))

-- two facts of one outcome
pub on_both : {E : Type 0} (r : Result Unit E) (A B C : Type 0) → (A → B → C) → OnOk r A → OnOk r B → OnOk r C
on_both (Ok u) A B C f a b = f a b
on_both (Err e) A B C f a b = tt
