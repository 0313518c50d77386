-- What a shelf holds after files were stored in turn, and the names of the files of a product.
use Rattle.std.proofs.Common.{◌≡◌, ◌≢◌, ℕ, ◌+◌, ◌<◌, List, [], ◌∷◌, ◌++◌, length, get_or, take, drop, zero, suc, refl, sym, ap, ◌∙◌, subst, arith, codes, map, inl, inr, All, AllPairs, reverse}
use Rattle.std.proofs.lemmas.List.{append_cancel_left, append_cancel_right, reverse-append}
use Rattle.std.proofs.lemmas.List.Elements.{All-nil, All-cons, All-head, All-tail, All-contains, All-map, Contains-append_right, Contains-append_cases}
use Rattle.std.proofs.lemmas.List.Kept.{AllPairs-cons}
use Rattle.std.proofs.lemmas.List.Quantifiers.{all_pairs_push}
use Rattle.std.proofs.lemmas.List.{take_more}
use Rattle.std.proofs.Math.Seq.{split_at}
use Rattle.std.specs.declared.option.Option.{Option}
use Rattle.std.specs.declared.option.Option.TheVariants.{None, Some}
use Rattle.std.specs.Option.{option_map}
use Rattle.std.specs.FinMap.{insert}
use Rattle.shelf_core.specs.Held.{Held, Sets, OthersStay}
use Rattle.rule_core.specs.declared.rules.Relation.{Relation}
use Rattle.rule_core.specs.Validity.{IsValid, IsRelation}
use Rattle.rule_core.specs.Names.{IsName, IsNameByte}
use Rattle.rule_core.specs.declared.rules.Query.{Query}
use Rattle.rule_core.proofs.ListLemmas as kept
use Rattle.rule_core.proofs.ListLemmas.{Contains-head, Contains-from_map, AllPairs-head, AllPairs-tail, AllPairs-nil, AllPairs-map, AllPairs-from_map, All-from_map, AllPairs-weaker}
use Rattle.exchange_cli.specs.Answers.{answer_relation}
use Rattle.exchange_cli.specs.Run.{Device, with_files, StoresUpTo}
use Rattle.exchange_cli.specs.Words.{Command, Exchange, Normalise, Snapshot, Check}
use Rattle.exchange_cli.specs.Names.{table_name, verdict_name}
use Rattle.exchange_cli.specs.Inputs.{Inputs}
use Rattle.exchange_cli.specs.Target.{TargetTable, AreTableFiles}
use Rattle.exchange_cli.specs.Pieces.{piece_tables}
use Rattle.exchange_cli.specs.Snapshot.{BareTable, AreBareFiles}
use Rattle.exchange_cli.specs.Files.{HaveDistinctNames}
use Rattle.exchange_cli.specs.Product.{Makes}
use Rattle.exchange_cli.specs.declared.file.FileOut.{FileOut}
use Rattle.exchange_cli.specs.declared.product.Product.{Product}

-- one more file is stored last
pub with_files-push : (held : Held) (files : List FileOut) (file : FileOut)
    → with_files held (files ++ file ∷ []) ≡ insert (with_files held files) file.name file.bytes
with_files-push held [] file = refl
with_files-push held (f ∷ fs) file = with_files-push (insert held f.name f.bytes) fs file

pub with_files-take : (held : Held) (files : List FileOut) (at : ℕ) (file : FileOut) → at < length files → file ≡ get_or files at file
    → with_files held (take (at + 1) files) ≡ insert (with_files held (take at files)) file.name file.bytes
with_files-take held files at file inside is =
    ap (with_files held) (take_more files at file inside) ∙ ap (λ (f : FileOut). with_files held (take at files ++ f ∷ []))
    (sym is) ∙ with_files-push held (take at files) file

-- after a store that went well, one more of the files is stored
pub stores_one_more : (before now after : Option Held) (files : List FileOut) (at : ℕ) (file : FileOut) → at < length files
    → file ≡ get_or files at file
    → now ≡ option_map (λ held. with_files held (take at files)) before → Sets now after file.name file.bytes
    → after ≡ option_map (λ held. with_files held (take (at + 1) files)) before
stores_one_more None now after files at file inside is stored sets =
    sets ∙ ap (option_map (λ held. insert held file.name file.bytes)) stored
stores_one_more (Some held) now after files at file inside is stored sets =
    sets ∙ ap (option_map (λ h. insert h file.name file.bytes)) stored ∙ ap Some (sym (with_files-take held files at file inside is))

-- a store that failed leaves the files before it stored, and the others as they were
pub stops_up_to : (before after : Device Held) (files : List FileOut) (at : ℕ) (file : FileOut) (name : List ℕ)
    → at < length files → file ≡ get_or files at file
    → name ≡ file.name → OthersStay (option_map (λ held. with_files held (take at files)) before.content) after.content file.name
    → StoresUpTo before after files name
stops_up_to before after files at file name inside is named others = (
  take at files,
  file,
  drop (suc at) files,
  split_at files at file inside ∙ ap (λ (f : FileOut). take at files ++ f ∷ drop (suc at) files) (sym is),
  named,
  rw named others,
)

-- the names of the files of a product

-- two tables below one prefix have the names of their relations
table_names : (prefix a b : List ℕ) → table_name prefix a ≡ table_name prefix b → a ≡ b
table_names prefix a b same =
    append_cancel_left (prefix ++ codes "/") a b
    (append_cancel_right (prefix ++ codes "/" ++ a) (prefix ++ codes "/" ++ b) (codes ".csv") same)

-- no table has the name of the verdict: that one ends otherwise
not_verdict : (prefix a : List ℕ) → table_name prefix a ≡ verdict_name prefix → ⊥
not_verdict prefix a same =
    let turned : reverse (codes ".csv") ++ reverse (prefix ++ codes "/" ++ a) ≡ reverse (codes "/verdict.txt") ++ reverse prefix =
    sym (reverse-append (prefix ++ codes "/" ++ a) (codes ".csv")) ∙ ap reverse same ∙ reverse-append prefix (codes "/verdict.txt") in
    let last : 118 ≡ 116 = ap (λ (l : List ℕ). get_or l 0 0) turned in
    omega (arith, last)

-- a table that no relation of the list is named as has another name than their files
apart_from : (prefix name : List ℕ) (relations : List Relation) (files : List FileOut) (tables : List TargetTable)
    → All (λ r. name ≢ r.name) relations → AreTableFiles prefix relations files tables
    → All (λ (f : FileOut). table_name prefix name ≢ f.name) files
apart_from prefix name [] files tables other are = rw are.0 (All-nil (λ (f : FileOut). table_name prefix name ≢ f.name))
apart_from prefix name (r ∷ rs) [] tables other are = absurd are
apart_from prefix name (r ∷ rs) (f ∷ fs) [] other are = absurd are
apart_from prefix name (r ∷ rs) (f ∷ fs) (rows ∷ more) other are =
    All-cons (λ (g : FileOut). table_name prefix name ≢ g.name) f fs
    (λ same. All-head (λ (s : Relation). name ≢ s.name) r rs other (table_names prefix name r.name (same ∙ are.0.name)))
    (apart_from prefix name rs fs more (All-tail (λ (s : Relation). name ≢ s.name) r rs other) are.1)

-- the files of tables have distinct names
distinct_tables : (prefix : List ℕ) (relations : List Relation) (files : List FileOut) (tables : List TargetTable)
    → AllPairs (λ (a b : Relation). a.name ≢ b.name) relations → AreTableFiles prefix relations files tables → HaveDistinctNames files
distinct_tables prefix [] files tables apart are = rw are.0 (λ i j d lt within. absurd (omega arith))
distinct_tables prefix (r ∷ rs) [] tables apart are = absurd are
distinct_tables prefix (r ∷ rs) (f ∷ fs) [] apart are = absurd are
distinct_tables prefix (r ∷ rs) (f ∷ fs) (rows ∷ more) apart are =
    let head : All (λ (s : Relation). r.name ≢ s.name) rs = λ k d within. apart zero (suc k) d (omega arith) (omega arith) in
    AllPairs-cons (λ (a b : FileOut). a.name ≢ b.name) f fs
    (subst (λ n. All (λ (g : FileOut). n ≢ g.name) fs) (sym are.0.name) (apart_from prefix r.name rs fs more head are.1))
    (distinct_tables prefix rs fs more (λ i j d lt within. apart (suc i) (suc j) d (omega arith) (omega arith)) are.1)

-- none of them is the verdict
none_is_verdict : (prefix : List ℕ) (relations : List Relation) (files : List FileOut) (tables : List TargetTable) (file : FileOut)
    → file.name ≡ verdict_name prefix → AreTableFiles prefix relations files tables
    → All (λ (f : FileOut). f.name ≢ file.name) files
none_is_verdict prefix [] files tables file verdict are = rw are.0 (All-nil (λ (f : FileOut). f.name ≢ file.name))
none_is_verdict prefix (r ∷ rs) [] tables file verdict are = absurd are
none_is_verdict prefix (r ∷ rs) (f ∷ fs) [] file verdict are = absurd are
none_is_verdict prefix (r ∷ rs) (f ∷ fs) (rows ∷ more) file verdict are =
    All-cons (λ (g : FileOut). g.name ≢ file.name) f fs (λ same. not_verdict prefix r.name (sym are.0.name ∙ same ∙ verdict))
    (none_is_verdict prefix rs fs more file verdict are.1)

-- a name has no dot, and so no relation is named as the answers of a query
no_dot : ¬ (IsNameByte 46)
no_dot (inl (inl h)) = omega (arith, h.0)
no_dot (inl (inr h)) = omega (arith, h.0)
no_dot (inr (inl h)) = omega (arith, h.0)
no_dot (inr (inr h)) = omega (arith, h)

not_answers : (name query : List ℕ) → IsName name → name ≢ query ++ codes ".answers"
not_answers name query is same =
    no_dot (All-contains IsNameByte (query ++ codes ".answers") 46 (subst (All IsNameByte) same is.bytes)
    (Contains-append_right query (codes ".answers") 46 (Contains-head 46 (codes "answers"))))

abbrev OtherName : Relation → Relation → Type 0
OtherName a b = a.name ≢ b.name

answers_apart : (queries : List Query) → AllPairs (λ (a b : Query). a.name ≢ b.name) queries
    → AllPairs OtherName (map answer_relation queries)
answers_apart queries apart =
    AllPairs-map OtherName answer_relation queries
    (AllPairs-weaker (λ (a b : Query). a.name ≢ b.name) (λ a b. OtherName (answer_relation a) (answer_relation b))
    (λ a b other same. other (append_cancel_right a.name b.name (codes ".answers") same)) queries apart)

all_apart : (relations : List Relation) (queries : List Query) → All IsRelation relations → AllPairs OtherName relations
    → AllPairs (λ (a b : Query). a.name ≢ b.name) queries → AllPairs OtherName (relations ++ map answer_relation queries)
all_apart [] queries valid apart others = answers_apart queries others
all_apart (r ∷ rs) queries valid apart others =
    kept.AllPairs-cons OtherName r (rs ++ map answer_relation queries)
    (λ y c. elim (Contains-append_cases rs (map answer_relation queries) y c) [
      | inl d ↦ AllPairs-head OtherName r rs apart y d
      | inr d ↦
          let q = Contains-from_map answer_relation queries y d in
          subst (OtherName r) q.2 (not_answers r.name q.0.name (All-head IsRelation r rs valid).name)
    ])
    (all_apart rs queries (All-tail IsRelation r rs valid) (AllPairs-tail OtherName r rs apart) others)

-- the files of two lists of tables
files_join : (prefix : List ℕ) (rs qs : List Relation) (fs gs : List FileOut) (ts us : List TargetTable)
    → AreTableFiles prefix rs fs ts → AreTableFiles prefix qs gs us → AreTableFiles prefix (rs ++ qs) (fs ++ gs) (ts ++ us)
files_join prefix [] qs [] gs [] us are more = more
files_join prefix [] qs [] gs (t ∷ ts) us are more = absurd (let bad = are.1 in cc)
files_join prefix [] qs (f ∷ fs) gs ts us are more = absurd (let bad = are.0 in cc)
files_join prefix (r ∷ rs) qs [] gs ts us are more = absurd are
files_join prefix (r ∷ rs) qs (f ∷ fs) gs [] us are more = absurd are
files_join prefix (r ∷ rs) qs (f ∷ fs) gs (t ∷ ts) us are more = (are.0, files_join prefix rs qs fs gs ts us are.1 more)

-- files of bare tables have the names of their relations
bare_names : (prefix : List ℕ) (relations : List Relation) (files : List FileOut) (tables : List BareTable)
    → AreBareFiles prefix relations files tables
    → map (λ (f : FileOut). f.name) files ≡ map (λ (r : Relation). table_name prefix r.name) relations
bare_names prefix [] files tables are = ap (map (λ (f : FileOut). f.name)) are.0
bare_names prefix (r ∷ rs) [] tables are = absurd are
bare_names prefix (r ∷ rs) (f ∷ fs) [] are = absurd are
bare_names prefix (r ∷ rs) (f ∷ fs) (rows ∷ more) are = λ i. are.0.name i ∷ bare_names prefix rs fs more are.1 i

-- and so distinct ones, of which none is the verdict
distinct_bare : (prefix : List ℕ) (relations : List Relation) (files : List FileOut) (tables : List BareTable) (verdict : FileOut)
    → AllPairs OtherName relations → AreBareFiles prefix relations files tables → verdict.name ≡ verdict_name prefix
    → HaveDistinctNames (files ++ verdict ∷ [])
distinct_bare prefix relations files tables verdict apart are named =
    let names = sym (bare_names prefix relations files tables are) in
    let differ : AllPairs (λ (a b : List ℕ). a ≢ b) (map (λ (r : Relation). table_name prefix r.name) relations) =
    AllPairs-map (λ a b. a ≢ b) (λ (r : Relation). table_name prefix r.name) relations
    (AllPairs-weaker OtherName (λ a b. table_name prefix a.name ≢ table_name prefix b.name)
    (λ a b other same. other (table_names prefix a.name b.name same)) relations apart) in
    let none : All (λ (n : List ℕ). n ≢ verdict.name) (map (λ (r : Relation). table_name prefix r.name) relations) =
    All-map (λ (n : List ℕ). n ≢ verdict.name) (λ (r : Relation). table_name prefix r.name) relations
    (λ k d l same. not_verdict prefix (get_or relations k d).name (same ∙ named)) in
    all_pairs_push (λ (a b : FileOut). a.name ≢ b.name) files verdict
    (AllPairs-from_map (λ (a b : List ℕ). a ≢ b) (λ (f : FileOut). f.name) files (subst (AllPairs (λ (a b : List ℕ). a ≢ b)) names differ))
    (All-from_map (λ (n : List ℕ). n ≢ verdict.name) (λ (f : FileOut). f.name) files (subst (All (λ (n : List ℕ). n ≢ verdict.name)) names none))

-- the files of a product have distinct names
pub distinct_files : (command : Command) (inputs : Inputs) (product : Product) → IsValid inputs.mapping.rules
    → Makes command inputs product → HaveDistinctNames product.files
distinct_files (Exchange origin target) inputs product valid (inr is) =
    rw is.files (λ i j d lt within. absurd (omega arith))
distinct_files (Exchange origin target) inputs product valid (inl makes) =
    let groups = makes.groups in
    let tables = makes.each.tables in
    let answers = makes.each.answers in
    let rules = inputs.mapping.rules in
    let relations = rules.targets ++ map answer_relation rules.queries in
    let files = groups.tables ++ groups.answers in
    let stored = tables.tables ++ answers.tables in
    let each = files_join target rules.targets (map answer_relation rules.queries) groups.tables groups.answers tables.tables answers.tables
    tables.each answers.each in
    let apart = all_apart rules.targets rules.queries valid.relations.target_relations valid.relations.target_names valid.queries.names in
    rw makes.files (all_pairs_push (λ (a b : FileOut). a.name ≢ b.name) files groups.verdict
    (distinct_tables target relations files stored apart each)
    (none_is_verdict target relations files stored groups.verdict makes.each.verdict.name each))
distinct_files (Normalise origin out) inputs product valid makes =
    let pieces = makes.files in
    let sources = inputs.mapping.rules.sources in
    distinct_tables out sources product.files (piece_tables pieces.loaded.pool pieces.normalised 0 sources) valid.relations.source_names
    pieces.each
distinct_files (Snapshot origin t out) inputs product valid (inr is) =
    rw is.files (λ i j d lt within. absurd (omega arith))
distinct_files (Snapshot origin t out) inputs product valid (inl makes) =
    rw makes.files (distinct_bare out inputs.mapping.rules.targets makes.groups.tables makes.each.tables makes.groups.verdict
    valid.relations.target_names makes.each.each makes.each.verdict.name)
distinct_files (Check origin trace) inputs product valid makes =
    rw makes.files (AllPairs-nil (λ (a b : FileOut). a.name ≢ b.name))
