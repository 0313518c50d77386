-- What a run does, from its call to its end.
use Rattle.std.specs.Prelude.{◌≡◌, ℕ, List, [], ◌∷◌, ◌++◌, ◌⊎◌, Option}
use Rattle.std.specs.Option.{option_map}
use Rattle.std.specs.FinMap.{insert}
use Rattle.shelf_core.specs.Held.{Held, OthersStay}
use Rattle.shelf_core.specs.Faults.{Rises}
use Rattle.shelf_core.specs.Texts.{Appends, AppendsPrefix}
use Rattle.exchange_cli.specs.Words.{Command, Spells, SpellsNone}
use Rattle.exchange_cli.specs.Endings.{status_of, line_of}
use Rattle.exchange_cli.specs.Inputs.{Inputs}
use Rattle.exchange_cli.specs.Product.{Makes}
use Rattle.exchange_cli.specs.Work.{Fetch, AreTold, Reads, FailsFirst}
use Rattle.exchange_cli.specs.declared.file.FileOut.{FileOut}
use Rattle.exchange_cli.specs.declared.product.Product.{Product}
use Rattle.exchange_cli.specs.declared.ending.Ending.{Ending}
use Rattle.exchange_cli.specs.declared.ending.Ending.TheVariants.{Done, Words, Missing, TooLong, Mapping, Table, Trace, Read, Write, Output, Memory}

-- what is known of a shelf or of a sink at a moment: what it holds, where it tells, and its count of faults
pub record Device (Content : Type 0) : Type 0 where
  pub content : Option Content
  pub faults : ℕ

abbrev pub device : {Content : Type 0} → Option Content → ℕ → Device Content
device content faults = record { content = content; faults = faults }

-- the shelf and the standard output at a moment
pub record Moment : Type 0 where
  pub shelf : Device Held
  pub out : Device (List ℕ)

abbrev pub moment : Device Held → Device (List ℕ) → Moment
moment shelf out = record { shelf = shelf; out = out }

-- the same, of a shelf and an output whose types tell what they hold and count
abbrev pub seen : {S O : Type 0} → (S → Option Held) → (S → ℕ) → (O → Option (List ℕ)) → (O → ℕ) → S → O → Moment
seen holds shelf_faults text out_faults shelf out =
    moment (device (holds shelf) (shelf_faults shelf)) (device (text out) (out_faults out))

-- nothing was stored or printed
abbrev pub Untouched : Moment → Moment → Type 0
Untouched before after = (after.shelf.content ≡ before.shelf.content) × (after.out ≡ before.out)

-- what is held once the files are stored, in their order
abbrev pub with_files : Held → List FileOut → Held
with_files held [] = held
with_files held (f ∷ fs) = with_files (insert held f.name f.bytes) fs

-- the files are stored, and nothing else has changed
abbrev pub Stores : Device Held → Device Held → List FileOut → Type 0
Stores before after files = after.content ≡ option_map (λ held. with_files held files) before.content

-- the files before the one of this name are stored; what that one holds is unknown, and all other names are as before
abbrev pub StoresUpTo : Device Held → Device Held → List FileOut → List ℕ → Type 0
StoresUpTo before after files name =
    (earlier : List FileOut) × (file : FileOut) × (later : List FileOut) × (files ≡ earlier ++ file ∷ later) × (name ≡ file.name)
    × OthersStay (option_map (λ held. with_files held earlier) before.content) after.content name

-- delivery, of any product

-- what is stored and printed of a product, by the ending
abbrev pub Delivers : Moment → Moment → Product → Ending → Type 0
Delivers before after product (Done finding) =
    (finding ≡ product.finding) × Stores before.shelf after.shelf product.files
    × Appends before.out.content after.out.content product.line
Delivers before after product (Write name) =
    StoresUpTo before.shelf after.shelf product.files name × (after.out ≡ before.out) × Rises before.shelf.faults after.shelf.faults
Delivers before after product Output =
    Stores before.shelf after.shelf product.files × AppendsPrefix before.out.content after.out.content product.line
    × Rises before.out.faults after.out.faults
Delivers before after product other = ⊥

-- why a run ends so

-- the words are a command's, and this is its first failure; the last fetch that was made shows it
abbrev pub Refuses : List (List ℕ) → Moment → Ending → Type 0
Refuses words before ending =
    (command : Command) × Spells words command × (fetches : List Fetch) × AreTold before.shelf.content fetches
    × FailsFirst command fetches ending

-- the words are a command's, all that it reads was fetched and read, and this is what it makes of that
abbrev pub IsMadeFor : List (List ℕ) → Moment → Product → Type 0
IsMadeFor words before product =
    (command : Command) × Spells words command × (fetches : List Fetch) × AreTold before.shelf.content fetches
    × (inputs : Inputs) × Reads command fetches inputs × Makes command inputs product

-- a product of the command is delivered so
abbrev pub Finishes : List (List ℕ) → Moment → Moment → Ending → Type 0
Finishes words before after ending = (product : Product) × IsMadeFor words before product × Delivers before after product ending

-- why a run ends so, and what is stored and printed then
abbrev pub Causes : List (List ℕ) → Moment → Moment → Ending → Type 0
Causes words before after Words = SpellsNone words × (after ≡ before)
Causes words before after (Missing name) = Refuses words before (Missing name) × Untouched before after
Causes words before after (TooLong name) = Refuses words before (TooLong name) × Untouched before after
Causes words before after (Mapping fault) = Refuses words before (Mapping fault) × Untouched before after
Causes words before after (Table name fault) = Refuses words before (Table name fault) × Untouched before after
Causes words before after (Trace fault) = Refuses words before (Trace fault) × Untouched before after
Causes words before after (Read name) =
    Refuses words before (Read name) × Untouched before after × Rises before.shelf.faults after.shelf.faults
Causes words before after Memory = (command : Command) × Spells words command × Untouched before after
Causes words before after (Write name) = Finishes words before after (Write name)
Causes words before after Output = Finishes words before after Output
Causes words before after (Done finding) = Finishes words before after (Done finding)

-- the line was appended, or a fault was counted
abbrev pub Says : Device (List ℕ) → Device (List ℕ) → List ℕ → Type 0
Says before after line = Appends before.content after.content line ⊎ Rises before.faults after.faults

-- how a run ends: its status, what is stored and printed and why, and the line on the standard error
pub record Ends (words : List (List ℕ)) (before after : Moment) (err err_after : Device (List ℕ)) (status : ℕ) : Type 0 where
  pub ending : Ending
  pub answer : status ≡ status_of ending
  pub cause : Causes words before after ending
  pub line : Says err err_after (line_of ending)
