-- How the clauses under the headline follow from the way in which a run ends.
use Rattle.std.proofs.Common.{◌≡◌, ◌⊎◌, ℕ, ℤ, List, refl, sym, ap, ◌∙◌, subst, inl, inr, arith}
use Rattle.std.specs.declared.option.Option.TheVariants.{Some}
use Rattle.std.specs.Option.{option_map}
use Rattle.shelf_core.specs.Held.{Held}
use Rattle.shelf_core.specs.Faults.{Rises}
use Rattle.shelf_core.specs.Texts.{Appends}
use Rattle.rule_core.specs.Solution.{HasSolution}
use Rattle.rule_core.specs.Snapshot.{snapshot_at}
use Rattle.rule_core.specs.Tables.{facts_of}
use Rattle.exchange_cli.specs.Target.{TargetTable, IsTarget}
use Rattle.exchange_cli.specs.Words.{Command, Exchange, Normalise, Snapshot, Check, Spells}
use Rattle.trace_checker.specs.declared.verdict.Verdict.{Verdict}
use Rattle.trace_checker.specs.declared.verdict.Verdict.TheVariants.{Accepted, Refused}
use Rattle.exchange_cli.specs.VerdictTexts.{status_judged}
use Rattle.exchange_cli.specs.Judged.{IsVerdictOf}
use Rattle.exchange_cli.specs.Endings.{IsDone, IsRefused, status_of, status_found, line_of, printed_of}
use Rattle.exchange_cli.specs.Inputs.{Inputs, name_of, source_of}
use Rattle.exchange_cli.specs.Product.{IsSolved, IsShownTarget, Makes, IsFindingOf, IsOwnStatus}
use Rattle.exchange_cli.specs.Certificate.{IsUnsolved}
use Rattle.exchange_cli.specs.Work.{Fetch, AreTold, Reads, FailsFirst}
use Rattle.exchange_cli.specs.Run.{Device, Moment, Refuses, IsMadeFor, Finishes, Causes, Ends, Says, Untouched, with_files}
use Rattle.exchange_cli.specs.Headline.{IsUnhindered, Completes, WordsClause, AnswerClause, RefusalClause, CompletesClause, OutputClause, StoreClause, StatusClause, TargetClause, AnswersClause, CountsClause, CertificateClause, PiecesClause, SnapshotClause, ChecksTrace, CheckClause, ShowsSnapshot, ShowsNone, HasNoSolution, IsLineOf}
use Rattle.exchange_cli.specs.declared.file.FileOut.{FileOut}
use Rattle.exchange_cli.specs.declared.product.Product.{Product}
use Rattle.exchange_cli.specs.declared.ending.Finding.{Finding}
use Rattle.exchange_cli.specs.declared.ending.Finding.TheVariants.{Solved, NoSolution, Normalised, Shown, Checked}
use Rattle.exchange_cli.specs.declared.ending.Ending.{Ending}
use Rattle.exchange_cli.specs.declared.ending.Ending.TheVariants.{Done, Words, Missing, TooLong, Mapping, Table, Trace, Read, Write, Output, Memory}
use Rattle.exchange_cli.proofs.ReadLemmas.{IsReadFault, one_command}

-- all that a command reads is one
abbrev pub OneReading : Type 0
OneReading = (held : Held) (command : Command) (f g : List Fetch) (a b : Inputs) → AreTold (Some held) f → AreTold (Some held) g
    → Reads command f a → Reads command g b → a ≡ b

-- where all is read, nothing fails but the shelf itself
abbrev pub OnlyShelfFails : Type 0
OnlyShelfFails = (held : Held) (command : Command) (f g : List Fetch) (inputs : Inputs) (ending : Ending)
    → AreTold (Some held) f → AreTold (Some held) g → Reads command f inputs → FailsFirst command g ending → IsReadFault ending

-- there is one first failure, faults of the shelf apart
abbrev pub OneRefusal : Type 0
OneRefusal = (held : Held) (command : Command) (f g : List Fetch) (a b : Ending) → AreTold (Some held) f → AreTold (Some held) g
    → FailsFirst command f a → FailsFirst command g b
    → ((name : List ℕ) → ¬ (a ≡ Read name)) → ((name : List ℕ) → ¬ (b ≡ Read name)) → a ≡ b

-- what a command makes is what it may find, and the line says it
pub finds : (command : Command) (inputs : Inputs) (product : Product) → Makes command inputs product → IsFindingOf command product.finding
finds (Exchange origin target) inputs product (inl is) = inl (is.pieces, is.firings, is.steps, is.cuts, is.found)
finds (Exchange origin target) inputs product (inr is) = inr (is.trace.instant, is.found)
finds (Normalise origin out) inputs product makes = (makes.facts, makes.pieces, makes.found)
finds (Snapshot origin t out) inputs product (inl is) = inl (is.rows, is.found)
finds (Snapshot origin t out) inputs product (inr is) = inr (is.trace.instant, is.found)
finds (Check origin trace) inputs product makes = (makes.verdict, makes.found)

pub says_it : (command : Command) (inputs : Inputs) (product : Product) → Makes command inputs product
    → product.line ≡ printed_of product.finding
says_it (Exchange origin target) inputs product (inl is) = is.line
says_it (Exchange origin target) inputs product (inr is) = is.line
says_it (Normalise origin out) inputs product makes = makes.line
says_it (Snapshot origin t out) inputs product (inl is) = is.line
says_it (Snapshot origin t out) inputs product (inr is) = is.line
says_it (Check origin trace) inputs product makes = makes.line

-- unhindered

module _ (one : OneReading) (only : OnlyShelfFails) (words : List (List ℕ)) (before after : Moment) (command : Command) (held : Held)
    (inputs : Inputs) (status : ℕ)
    (free : IsUnhindered words before after status command held inputs) where
  -- nothing that the command reads is refused
  no_refusal : (ending : Ending) → ((name : List ℕ) → ending ≡ Read name → ⊥) → Refuses words before ending → ⊥
  no_refusal ending other (c, spelled, fetches, told, fails) =
      let same = one_command words c command spelled free.spelled in
      let failed = only held command free.fetches fetches inputs ending free.each (subst (λ t. AreTold t fetches) free.told told) free.reads
      (subst (λ c. FailsFirst c fetches ending) same fails) in
      other failed.0 failed.1

  -- the run is done
  is_done : (ending : Ending) → status ≡ status_of ending → Causes words before after ending
      → (finding : Finding) × (status ≡ status_found finding) × Finishes words before after (Done finding)
  is_done (Done finding) answer cause = (finding, answer, cause)
  is_done Words answer cause = absurd (cause.0 command free.spelled)
  is_done (Missing name) answer cause = absurd (no_refusal (Missing name) (λ n e. cc) cause.0)
  is_done (TooLong name) answer cause = absurd (no_refusal (TooLong name) (λ n e. cc) cause.0)
  is_done (Mapping fault) answer cause = absurd (no_refusal (Mapping fault) (λ n e. cc) cause.0)
  is_done (Table name fault) answer cause = absurd (no_refusal (Table name fault) (λ n e. cc) cause.0)
  is_done (Trace fault) answer cause = absurd (no_refusal (Trace fault) (λ n e. cc) cause.0)
  is_done (Read name) answer cause = absurd (free.shelf cause.2)
  is_done Memory answer cause = absurd (free.memory answer)
  is_done (Write name) answer cause = absurd (free.shelf cause.2.2)
  is_done Output answer cause = absurd (free.out cause.2.2)

  -- a product of what was read is delivered
  pub completes : (ending : Ending) → status ≡ status_of ending → Causes words before after ending
      → Completes before after status command held inputs
  completes ending answer cause =
      let done = is_done ending answer cause in
      let product = done.2.0 in
      let made = done.2.1 in
      let delivered = done.2.2 in
      let same = one_command words made.0 command made.1 free.spelled in
      let told = subst (λ t. AreTold t made.2) free.told made.3 in
      let read = one held command made.2 free.fetches made.4 inputs told free.each
      (subst (λ c. Reads c made.2 made.4) same made.5) free.reads in
      let makes : Makes command inputs product =
      subst (λ i. Makes command i product) read (subst (λ c. Makes c made.4 product) same made.6) in
      record {
        product = product;
        made = makes;
        found = finds command inputs product makes;
        answer = done.1 ∙ ap status_found delivered.0;
        stored = delivered.1 ∙ ap (option_map (λ h. with_files h product.files)) free.told;
        printed = delivered.2;
      }

-- where the target is universal at every instant, the mapping has a solution
has_solution : (inputs : Inputs) (tables : List TargetTable) → IsTarget inputs tables
    → HasSolution (name_of inputs) inputs.mapping.rules (source_of inputs)
has_solution inputs tables target = λ t. (snapshot_at (facts_of tables) t, (target.universal t).solution)

pub completes_clause : OneReading → OnlyShelfFails → (words : List (List ℕ)) (before after : Moment) (err now : Device (List ℕ))
    (status : ℕ)
    → Ends words before after err now status → CompletesClause words before after status
completes_clause one only words before after err now status ends = λ command held inputs free.
    completes one only words before after command held inputs status free ends.ending ends.answer ends.cause

-- an exchange ends with 0 and a target, or with 2 and a certificate

-- what was found tells the status
status_is : (status : ℕ) (product : Product) (finding : Finding) → status ≡ status_found product.finding → product.finding ≡ finding
    → status ≡ status_found finding
status_is status product finding answer found = answer ∙ ap status_found found

module _ (inputs : Inputs) (prefix : List ℕ) (product : Product) (status : ℕ) (answer : status ≡ status_found product.finding) where
  zero_where_solved : IsSolved inputs prefix product → status ≡ 0
  zero_where_solved is = status_is status product (Solved is.pieces is.firings is.steps is.cuts) answer is.found

  two_where_unsolved : IsUnsolved inputs prefix product → status ≡ 2
  two_where_unsolved is = status_is status product (NoSolution is.trace.instant) answer is.found

  -- so a target was made where the status is 0, and a certificate where it is 2
  solved_by : IsSolved inputs prefix product ⊎ IsUnsolved inputs prefix product → status ≡ 0 → IsSolved inputs prefix product
  solved_by (inl is) zero = is
  solved_by (inr is) zero = let two = two_where_unsolved is in absurd (omega (arith, two, zero))

  unsolved_by : IsSolved inputs prefix product ⊎ IsUnsolved inputs prefix product → status ≡ 2 → IsUnsolved inputs prefix product
  unsolved_by (inl is) two = let zero = zero_where_solved is in absurd (omega (arith, two, zero))
  unsolved_by (inr is) two = is

  status_of_exchange : IsSolved inputs prefix product ⊎ IsUnsolved inputs prefix product
      → ((status ≡ 0) × HasSolution (name_of inputs) inputs.mapping.rules (source_of inputs))
      ⊎ ((status ≡ 2) × HasNoSolution (name_of inputs) inputs.mapping.rules (source_of inputs))
  status_of_exchange (inl is) = inl (zero_where_solved is, has_solution inputs is.each.tables.tables is.each.tables.target)
  status_of_exchange (inr is) = inr (two_where_unsolved is, (is.trace.instant, is.certificate.refutes.none))

pub status_clause : (words : List (List ℕ)) (before after : Moment) (status : ℕ)
    → CompletesClause words before after status → StatusClause words before after status
status_clause words before after status all = λ origin target held inputs free.
    let done = all (Exchange origin target) held inputs free in
    status_of_exchange inputs target done.product status done.answer done.made

pub target_clause : (words : List (List ℕ)) (before after : Moment) (status : ℕ)
    → CompletesClause words before after status → TargetClause words before after status
target_clause words before after status all = λ origin target held inputs free zero.
    let done = all (Exchange origin target) held inputs free in
    let is = solved_by inputs target done.product status done.answer done.made zero in
    (is.groups, is.each, done.stored ∙ ap (λ (files : List FileOut). Some (with_files held files)) is.files)

pub answers_clause : (words : List (List ℕ)) (before after : Moment) (status : ℕ)
    → CompletesClause words before after status → AnswersClause words before after status
answers_clause words before after status all = λ origin target held inputs free zero.
    let done = all (Exchange origin target) held inputs free in
    let is = solved_by inputs target done.product status done.answer done.made zero in
    (is.groups, is.each.answers, done.stored ∙ ap (λ (files : List FileOut). Some (with_files held files)) is.files)

pub counts_clause : (words : List (List ℕ)) (before after : Moment) (status : ℕ)
    → CompletesClause words before after status → CountsClause words before after status
counts_clause words before after status all = λ origin target held inputs free zero.
    let done = all (Exchange origin target) held inputs free in
    let is = solved_by inputs target done.product status done.answer done.made zero in (
      is.groups,
      is.each.tables.tables,
      is.each.tables.each,
      done.stored ∙ ap (λ (files : List FileOut). Some (with_files held files)) is.files,
      is.pieces,
      is.firings,
      is.steps,
      is.cuts,
      is.counts,
      subst (λ (line : List ℕ). Appends before.out.content after.out.content line) (is.line ∙ ap printed_of is.found) done.printed,
    )

pub certificate_clause : (words : List (List ℕ)) (before after : Moment) (status : ℕ)
    → CompletesClause words before after status → CertificateClause words before after status
certificate_clause words before after status all = λ origin target held inputs free two.
    let done = all (Exchange origin target) held inputs free in
    let is = unsolved_by inputs target done.product status done.answer done.made two in (
      is.trace,
      is.file,
      is.certificate,
      done.stored ∙ ap (λ (files : List FileOut). Some (with_files held files)) is.files,
      subst (λ (line : List ℕ). Appends before.out.content after.out.content line) (is.line ∙ ap printed_of is.found) done.printed,
    )

pub pieces_clause : (words : List (List ℕ)) (before after : Moment) (status : ℕ)
    → CompletesClause words before after status → PiecesClause words before after status
pieces_clause words before after status all = λ origin out held inputs free.
    let done = all (Normalise origin out) held inputs free in
    let made = done.made in (
      done.product.files,
      made.facts,
      made.pieces,
      made.files,
      done.answer ∙ ap status_found made.found,
      done.stored,
      subst (λ (line : List ℕ). Appends before.out.content after.out.content line) (made.line ∙ ap printed_of made.found) done.printed,
    )

module _ (before after : Moment) (status : ℕ) (t : ℤ) (out : List ℕ) (held : Held) (inputs : Inputs) (product : Product)
    (answer : status ≡ status_found product.finding) (stored : after.shelf.content ≡ Some (with_files held product.files))
    (printed : Appends before.out.content after.out.content product.line) where
  shows_snapshot : IsShownTarget inputs t out product → ShowsSnapshot before after status t out held inputs
  shows_snapshot made = record {
    answer = answer ∙ ap status_found made.found;
    solvable = has_solution inputs made.each.snapshot.target made.each.snapshot.is;
    files = made.groups;
    rows = made.rows;
    each = made.each;
    stored = stored ∙ ap (λ (files : List FileOut). Some (with_files held files)) made.files;
    printed = subst (λ (line : List ℕ). Appends before.out.content after.out.content line) (made.line ∙ ap printed_of made.found) printed;
  }

  shows_none : IsUnsolved inputs out product → ShowsNone before after status out held inputs
  shows_none made = record {
    answer = answer ∙ ap status_found made.found;
    trace = made.trace;
    file = made.file;
    certificate = made.certificate;
    stored = stored ∙ ap (λ (files : List FileOut). Some (with_files held files)) made.files;
    printed = subst (λ (line : List ℕ). Appends before.out.content after.out.content line) (made.line ∙ ap printed_of made.found) printed;
  }

  shows_either : IsShownTarget inputs t out product ⊎ IsUnsolved inputs out product
      → ShowsSnapshot before after status t out held inputs ⊎ ShowsNone before after status out held inputs
  shows_either (inl made) = inl (shows_snapshot made)
  shows_either (inr made) = inr (shows_none made)

pub snapshot_clause : (words : List (List ℕ)) (before after : Moment) (status : ℕ)
    → CompletesClause words before after status → SnapshotClause words before after status
snapshot_clause words before after status all = λ origin t out held inputs free.
    let done = all (Snapshot origin t out) held inputs free in
    shows_either before after status t out held inputs done.product done.answer done.stored done.printed done.made

-- what is found of a trace tells whether it is accepted
checks_trace : (before after : Moment) (status : ℕ) (inputs : Inputs) (verdict : Verdict) → IsVerdictOf inputs verdict
    → status ≡ status_judged verdict → Appends before.out.content after.out.content (printed_of (Checked verdict))
    → after.shelf.content ≡ before.shelf.content → ChecksTrace before after status inputs
checks_trace before after status inputs Accepted is answer printed same = record {
  trace = is.trace;
  read = is.read;
  exactly = (λ zero. is.right, λ accepted. answer);
  shows = λ zero. is.shows refl;
  accepted = λ zero. printed;
  refused = λ other. absurd (other answer);
  same = same;
}
checks_trace before after status inputs (Refused step why) is answer printed same =
    let other : ¬ (status ≡ 0) = λ zero. omega (arith, zero, answer) in
    record {
      trace = is.trace;
      read = is.read;
      exactly = (λ zero. absurd (other zero), λ accepted. absurd (let verdict = is.one Accepted accepted in cc));
      shows = λ zero. absurd (other zero);
      accepted = λ zero. absurd (other zero);
      refused = λ failed. (answer, step, why, is.right, printed);
      same = same;
    }

pub check_clause : (words : List (List ℕ)) (before after : Moment) (status : ℕ)
    → CompletesClause words before after status → CheckClause words before after status
check_clause words before after status all = λ origin name held inputs free.
    let done = all (Check origin name) held inputs free in
    let made = done.made in
    checks_trace before after status inputs made.verdict made.judges (done.answer ∙ ap status_found made.found)
    (subst (λ (line : List ℕ). Appends before.out.content after.out.content line) (made.line ∙ ap printed_of made.found) done.printed)
    (done.stored ∙ ap (λ (files : List FileOut). Some (with_files held files)) made.files ∙ sym free.told)

-- words that spell no command

words_of : (words : List (List ℕ)) (before after : Moment) (status : ℕ) (ending : Ending) → status ≡ status_of ending
    → Causes words before after ending → ((command : Command) → ¬ (Spells words command))
    → (status ≡ 5) × (after ≡ before) × (line_of ending ≡ line_of Words)
words_of words before after status Words answer cause none = (answer, cause.1, refl)
words_of words before after status (Done finding) answer cause none = absurd (none cause.1.0 cause.1.1)
words_of words before after status (Missing name) answer cause none = absurd (none cause.0.0 cause.0.1)
words_of words before after status (TooLong name) answer cause none = absurd (none cause.0.0 cause.0.1)
words_of words before after status (Mapping fault) answer cause none = absurd (none cause.0.0 cause.0.1)
words_of words before after status (Table name fault) answer cause none = absurd (none cause.0.0 cause.0.1)
words_of words before after status (Trace fault) answer cause none = absurd (none cause.0.0 cause.0.1)
words_of words before after status (Read name) answer cause none = absurd (none cause.0.0 cause.0.1)
words_of words before after status Memory answer cause none = absurd (none cause.0 cause.1)
words_of words before after status (Write name) answer cause none = absurd (none cause.1.0 cause.1.1)
words_of words before after status Output answer cause none = absurd (none cause.1.0 cause.1.1)

pub words_clause : (words : List (List ℕ)) (before after : Moment) (err now : Device (List ℕ)) (status : ℕ)
    → Ends words before after err now status → WordsClause words before after err now status
words_clause words before after err now status ends = record {
  answer = λ none. (words_of words before after status ends.ending ends.answer ends.cause none).0;
  same = λ none. (words_of words before after status ends.ending ends.answer ends.cause none).1;
  line = λ none.
      subst (Says err now) (words_of words before after status ends.ending ends.answer ends.cause none).2 ends.line;
}

-- words that spell a command

own_status : (words : List (List ℕ)) (before : Moment) (status : ℕ) (command : Command) (product : Product) → Spells words command
    → IsMadeFor words before product → status ≡ status_found product.finding → IsOwnStatus command status
own_status words before status command product spelled made is =
    let same = one_command words made.0 command made.1 spelled in
    (product.finding, subst (λ c. IsFindingOf c product.finding) same (finds made.0 made.4 product made.6), is)

answer_of : (words : List (List ℕ)) (before after : Moment) (status : ℕ) (ending : Ending) → status ≡ status_of ending
    → Causes words before after ending → AnswerClause words status
answer_of words before after status Words answer cause command spelled = absurd (cause.0 command spelled)
answer_of words before after status (Done finding) answer cause command spelled =
    inl (own_status words before status command cause.0 spelled cause.1 (answer ∙ ap status_found cause.2.0))
answer_of words before after status (Missing name) answer cause command spelled = inr (inl answer)
answer_of words before after status (TooLong name) answer cause command spelled = inr (inl answer)
answer_of words before after status (Mapping fault) answer cause command spelled = inr (inl answer)
answer_of words before after status (Table name fault) answer cause command spelled = inr (inl answer)
answer_of words before after status (Trace fault) answer cause command spelled = inr (inl answer)
answer_of words before after status (Read name) answer cause command spelled = inr (inr (inl answer))
answer_of words before after status (Write name) answer cause command spelled = inr (inr (inl answer))
answer_of words before after status Output answer cause command spelled = inr (inr (inl answer))
answer_of words before after status Memory answer cause command spelled = inr (inr (inr answer))

pub answer_clause : (words : List (List ℕ)) (before after : Moment) (err now : Device (List ℕ)) (status : ℕ)
    → Ends words before after err now status → AnswerClause words status
answer_clause words before after err now status ends = answer_of words before after status ends.ending ends.answer ends.cause

-- refusals

module _ (only : OnlyShelfFails) (one : OneRefusal) (words : List (List ℕ)) (before after : Moment) (status : ℕ) (command : Command)
    (held : Held)
    (fetches : List Fetch) (first : Ending) (spelled : Spells words command) (told : before.shelf.content ≡ Some held)
    (each : AreTold (Some held) fetches) (fails : FailsFirst command fetches first) (other : (name : List ℕ) → ¬ (first ≡ Read name)) where
  -- what was refused is this
  is_first : (ending : Ending) → ((name : List ℕ) → ¬ (ending ≡ Read name)) → Refuses words before ending → ending ≡ first
  is_first ending apart (c, spells, mine, known, failed) =
      let same = one_command words c command spells spelled in
      one held command mine fetches ending first (subst (λ t. AreTold t mine) told known) each
      (subst (λ c. FailsFirst c mine ending) same failed) fails apart other

  -- nothing was made
  not_made : (product : Product) → IsMadeFor words before product → ⊥
  not_made product made =
      let same = one_command words made.0 command made.1 spelled in
      let failed = only held command made.2 fetches made.4 first (subst (λ t. AreTold t made.2) told made.3) each
      (subst (λ c. Reads c made.2 made.4) same made.5) fails in
      other failed.0 failed.1

  pub refused_so : (ending : Ending) → status ≡ status_of ending → Causes words before after ending → ¬ (status ≡ 4)
      → ¬ (Rises before.shelf.faults after.shelf.faults) → (ending ≡ first) × Untouched before after
  refused_so Words answer cause memory shelf = absurd (cause.0 command spelled)
  refused_so (Missing name) answer cause memory shelf = (is_first (Missing name) (λ n e. cc) cause.0, cause.1)
  refused_so (TooLong name) answer cause memory shelf = (is_first (TooLong name) (λ n e. cc) cause.0, cause.1)
  refused_so (Mapping fault) answer cause memory shelf = (is_first (Mapping fault) (λ n e. cc) cause.0, cause.1)
  refused_so (Table name fault) answer cause memory shelf = (is_first (Table name fault) (λ n e. cc) cause.0, cause.1)
  refused_so (Trace fault) answer cause memory shelf = (is_first (Trace fault) (λ n e. cc) cause.0, cause.1)
  refused_so (Read name) answer cause memory shelf = absurd (shelf cause.2)
  refused_so Memory answer cause memory shelf = absurd (memory answer)
  refused_so (Write name) answer cause memory shelf = absurd (not_made cause.0 cause.1)
  refused_so Output answer cause memory shelf = absurd (not_made cause.0 cause.1)
  refused_so (Done finding) answer cause memory shelf = absurd (not_made cause.0 cause.1)

pub refusal_clause : OnlyShelfFails → OneRefusal → (words : List (List ℕ)) (before after : Moment) (err now : Device (List ℕ)) (status : ℕ)
    → Ends words before after err now status → RefusalClause words before after err now status
refusal_clause only one words before after err now status ends = λ command held fetches first spelled told each fails other memory shelf.
    let so = refused_so only one words before after status command held fetches first spelled told each fails other ends.ending ends.answer
    ends.cause memory shelf in
    (ends.answer ∙ ap status_of so.0, so.1, subst (λ e. Says err now (line_of e)) so.0 ends.line)

-- what is printed

-- what is printed of a product is a line of the words
line_is : (words : List (List ℕ)) (before : Moment) (product : Product) → IsMadeFor words before product
    → IsLineOf words (status_found product.finding) product.line
line_is words before product made =
    (made.0, product.finding, made.1, finds made.0 made.4 product made.6, refl, says_it made.0 made.4 product made.6)

-- a status is of one kind
done_or_refused : (status : ℕ) → IsDone status → IsRefused status → ⊥
done_or_refused status (inl a) (inl b) = omega arith
done_or_refused status (inl a) (inr (inl b)) = omega arith
done_or_refused status (inl a) (inr (inr b)) = omega arith
done_or_refused status (inr (inl a)) (inl b) = omega arith
done_or_refused status (inr (inl a)) (inr (inl b)) = omega arith
done_or_refused status (inr (inl a)) (inr (inr b)) = omega arith
done_or_refused status (inr (inr a)) (inl b) = omega arith
done_or_refused status (inr (inr a)) (inr (inl b)) = omega arith
done_or_refused status (inr (inr a)) (inr (inr b)) = omega arith

done_or_failed : (status : ℕ) → IsDone status → status ≡ 3 → ⊥
done_or_failed status (inl a) b = omega arith
done_or_failed status (inr (inl a)) b = omega arith
done_or_failed status (inr (inr a)) b = omega arith

refused_or_failed : (status : ℕ) → IsRefused status → status ≡ 3 → ⊥
refused_or_failed status (inl a) b = omega arith
refused_or_failed status (inr (inl a)) b = omega arith
refused_or_failed status (inr (inr a)) b = omega arith

-- what was found has a status of a run that came to its end
found_is_done : (finding : Finding) → IsDone (status_found finding)
found_is_done (Solved pieces firings steps cuts) = inl refl
found_is_done (NoSolution instant) = inr (inl refl)
found_is_done (Normalised facts pieces) = inl refl
found_is_done (Shown instant rows) = inl refl
found_is_done (Checked Accepted) = inl refl
found_is_done (Checked (Refused step why)) = inr (inr refl)

-- a run that is refused prints nothing
quiet : (words : List (List ℕ)) (before after : Device (List ℕ)) (status : ℕ) → IsRefused status → after ≡ before
    → OutputClause words before after status
quiet words before after status is same =
    record { done = λ p. absurd (done_or_refused status p is); failed = λ z. inl same; refused = λ p. same }

output_of : (words : List (List ℕ)) (before after : Moment) (status : ℕ) (ending : Ending)
    → status ≡ status_of ending → Causes words before after ending → OutputClause words before.out after.out status
output_of words before after status (Done finding) answer cause =
    let is : status ≡ status_found cause.0.finding = answer ∙ ap status_found cause.2.0 in
    let done : IsDone status = rw is (found_is_done cause.0.finding) in
    record {
      done = λ p. (cause.0.line, rw is (line_is words before cause.0 cause.1), cause.2.2);
      failed = λ z. absurd (done_or_failed status done z);
      refused = λ p. absurd (done_or_refused status done p);
    }
output_of words before after status Output answer cause =
    record {
      done = λ p. absurd (done_or_failed status p answer);
      failed = λ z. inr (status_found cause.0.finding, cause.0.line, line_is words before cause.0 cause.1, cause.2.1, cause.2.2);
      refused = λ p. absurd (refused_or_failed status p answer);
    }
output_of words before after status (Write name) answer cause =
    record {
      done = λ p. absurd (done_or_failed status p answer);
      failed = λ z. inl cause.2.1;
      refused = λ p. absurd (refused_or_failed status p answer);
    }
output_of words before after status (Read name) answer cause =
    record {
      done = λ p. absurd (done_or_failed status p answer);
      failed = λ z. inl cause.1.1;
      refused = λ p. absurd (refused_or_failed status p answer);
    }
output_of words before after status Words answer cause =
    quiet words before.out after.out status (inr (inr answer)) (ap (λ (m : Moment). m.out) cause.1)
output_of words before after status (Missing name) answer cause = quiet words before.out after.out status (inl answer) cause.1.1
output_of words before after status (TooLong name) answer cause = quiet words before.out after.out status (inl answer) cause.1.1
output_of words before after status (Mapping fault) answer cause = quiet words before.out after.out status (inl answer) cause.1.1
output_of words before after status (Table name fault) answer cause = quiet words before.out after.out status (inl answer) cause.1.1
output_of words before after status (Trace fault) answer cause = quiet words before.out after.out status (inl answer) cause.1.1
output_of words before after status Memory answer cause = quiet words before.out after.out status (inr (inl answer)) cause.2.1

pub output_clause : (words : List (List ℕ)) (before after : Moment) (err now : Device (List ℕ)) (status : ℕ)
    → Ends words before after err now status → OutputClause words before.out after.out status
output_clause words before after err now status ends = output_of words before after status ends.ending ends.answer ends.cause

-- what is stored

-- a run that is refused stores nothing
keeps_all : (words : List (List ℕ)) (before after : Moment) (status : ℕ) → IsRefused status → Untouched before after
    → StoreClause words before after status
keeps_all words before after status is same = record {
  done = λ p. absurd (done_or_refused status p is);
  failed = λ z. absurd (refused_or_failed status is z);
  refused = λ p. same;
}

store_of : (words : List (List ℕ)) (before after : Moment) (status : ℕ) (ending : Ending) → status ≡ status_of ending
    → Causes words before after ending → StoreClause words before after status
store_of words before after status (Done finding) answer cause =
    let is : status ≡ status_found cause.0.finding = answer ∙ ap status_found cause.2.0 in
    let done : IsDone status = rw is (found_is_done cause.0.finding) in
    record {
      done = λ p. (cause.0, cause.1, is, cause.2.1);
      failed = λ z. absurd (done_or_failed status done z);
      refused = λ p. absurd (done_or_refused status done p);
    }
store_of words before after status Output answer cause =
    record {
      done = λ p. absurd (done_or_failed status p answer);
      failed = λ z. inr (cause.0, cause.1, inl cause.2);
      refused = λ p. absurd (refused_or_failed status p answer);
    }
store_of words before after status (Write name) answer cause =
    record {
      done = λ p. absurd (done_or_failed status p answer);
      failed = λ z. inr (cause.0, cause.1, inr (name, cause.2));
      refused = λ p. absurd (refused_or_failed status p answer);
    }
store_of words before after status (Read name) answer cause =
    record {
      done = λ p. absurd (done_or_failed status p answer);
      failed = λ z. inl (cause.1, cause.2);
      refused = λ p. absurd (refused_or_failed status p answer);
    }
store_of words before after status Words answer cause =
    keeps_all words before after status (inr (inr answer))
    (ap (λ (m : Moment). m.shelf.content) cause.1, ap (λ (m : Moment). m.out) cause.1)
store_of words before after status (Missing name) answer cause = keeps_all words before after status (inl answer) cause.1
store_of words before after status (TooLong name) answer cause = keeps_all words before after status (inl answer) cause.1
store_of words before after status (Mapping fault) answer cause = keeps_all words before after status (inl answer) cause.1
store_of words before after status (Table name fault) answer cause = keeps_all words before after status (inl answer) cause.1
store_of words before after status (Trace fault) answer cause = keeps_all words before after status (inl answer) cause.1
store_of words before after status Memory answer cause = keeps_all words before after status (inr (inl answer)) cause.2

pub store_clause : (words : List (List ℕ)) (before after : Moment) (err now : Device (List ℕ)) (status : ℕ)
    → Ends words before after err now status → StoreClause words before after status
store_clause words before after err now status ends = store_of words before after status ends.ending ends.answer ends.cause
