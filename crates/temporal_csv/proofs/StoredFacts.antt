-- Known texts of cells and of a table.
use Rattle.std.proofs.Common.{◌≡◌, ◌∷◌, [], ℕ, List, Some, None, codes, pos, refl, inl, inr, arith, map}
use Rattle.std.specs.Fmt.{digits}
use Rattle.csv.specs.Writing.{escaped, fields_text, is_blank}
use Rattle.rule_core.specs.Terms.{TermOf, constant, unknown, numbered}
use Rattle.temporal_csv.specs.Stored.{IsCell, StoredRow, bare_row, cell_text, header_of, stamped_row, stored_constant, table_text}

-- a constant that looks like an unknown is told from it
pub marked : stored_constant (codes "?5") ≡ codes "??5"
marked = refl

pub one_mark : stored_constant (codes "?") ≡ codes "??"
one_mark = refl

pub two_marks : stored_constant (codes "??") ≡ codes "???"
two_marks = refl

-- any other constant is stored as it stands
pub nothing : stored_constant [] ≡ []
nothing = refl

pub late_mark : stored_constant (codes "a?") ≡ codes "a?"
late_mark = refl

pub number : cell_text (unknown (numbered 120)) ≡ codes "?120"
unfolding digits
number = refl

-- what the texts stand for
pub reads_marked : IsCell (codes "??5") (constant (codes "?5"))
reads_marked = inl ((codes "5", refl), refl)

pub reads_number : IsCell (codes "?50") (unknown (numbered 50))
reads_number = (codes "50", refl, (omega arith, omega arith, ((omega arith, omega arith), tt)), refl)

pub reads_mark : IsCell (codes "?") (constant (codes "?"))
reads_mark = inr ((λ d. cc d.1), (λ n h. let none : h.0 ≡ [] = cc h.1 in absurd (rw none at h.2)), refl)

pub reads_leading_zero : IsCell (codes "?05") (constant (codes "?05"))
reads_leading_zero = inr (
  (λ d. cc d.1),
  (λ n h.
      let same : h.0 ≡ codes "05" = cc h.1 in
      absurd (omega (arith, (rw same at h.2).0))),
  refl,
)

-- the rows of one column over the instant 1
abbrev over_one : TermOf (List ℕ) → StoredRow
over_one term = record { cells = term ∷ []; span = Some (record { lo = Some (pos 1); hi = Some (pos 2) }) }

pub worked : table_text (header_of (codes "x" ∷ []))
    (map (λ text. over_one (constant text)) ([] ∷ codes "?5" ∷ codes "a,b" ∷ codes "c\nd" ∷ []))
    ≡ codes "x,start,end\n,1,2\n??5,1,2\n\"a,b\",1,2\n\"c\nd\",1,2\n"
unfolding digits escaped fields_text is_blank
worked = refl

-- a table of two columns and no row, and one whose row is unbounded
pub bare : table_text (header_of (codes "name" ∷ codes "company" ∷ [])) [] ≡ codes "name,company,start,end\n"
unfolding fields_text is_blank
bare = refl

pub unbounded : table_text (header_of (codes "x" ∷ []))
    (stamped_row (record { row = unknown (numbered 7) ∷ []; span = record { lo = None; hi = None } }) ∷ [])
    ≡ codes "x,start,end\n?7,-inf,inf\n"
unfolding digits fields_text is_blank
unbounded = refl

-- rows without spans; a record of one empty field is written as two quotes
pub bare_cells : table_text (codes "x" ∷ []) (bare_row (constant [] ∷ []) ∷ bare_row (unknown (numbered 12) ∷ []) ∷ [])
    ≡ codes "x\n\"\"\n?12\n"
unfolding digits escaped fields_text is_blank
bare_cells = refl
