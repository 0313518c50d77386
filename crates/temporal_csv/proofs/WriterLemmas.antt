-- What a table's writer has written so far.
use Rattle.std.proofs.Common.{◌≡◌, ◌<◌, ◌+◌, ◌++◌, ◌∷◌, ◌∙◌, [], ℕ, List, true, refl, sym, subst, append_assoc, ap, length, take}
use Rattle.std.specs.Prelude.{All, IsSomeAnd, Option, Some, slice_get}
use Rattle.std.specs.declared.alloc.Global.{Global}
use Rattle.std.specs.declared.vec.Vec.{Vec}
use Rattle.std.proofs.lemmas.List.{append-nil, map-append, take_more}
use Rattle.std.proofs.lemmas.List.Concat.{flat_map-append}
use Rattle.std.proofs.lemmas.List.Elements.{All-nil, All-push}
use Rattle.std.proofs.lemmas.Option.{get_or_from_slice_get, slice_get-get_or, slice_get_within}
use Rattle.csv.specs.Writing.{default_writer, escaped, field_text, fields_text, is_blank, row_text, with_flexible}
use Rattle.csv.specs.declared.writer.Writer.{Writer}
use Rattle.csv.specs.declared.writer.WriterBuilder.{WriterBuilder}
use Rattle.rule_core.specs.Terms.{TermOf, constant, unknown, numbered, named}
use Rattle.temporal_csv.specs.Stored.{AreNumbered, HasStorableEnds, IsNumberedFromOne, IsStorable, IsStorableRow, StoredRow, bare_row, record_of, table_text}
use Rattle.temporal_csv.specs.TableWriter.{FitsWord, HasWritten, IsBetween, row_in, written_text}

-- a writer that lets records differ in length writes each as the default writer does
abbrev flexible : WriterBuilder
flexible = with_flexible default_writer true

escaped-flexible : (x : List ℕ) → escaped flexible x ≡ escaped default_writer x
unfolding escaped
escaped-flexible [] = refl
escaped-flexible (b ∷ rest) = rw (escaped-flexible rest) refl

field_text-flexible : (x : List ℕ) → field_text flexible x ≡ field_text default_writer x
field_text-flexible x = rw (escaped-flexible x) refl

fields_text-flexible : (xs : List (List ℕ)) → fields_text flexible xs ≡ fields_text default_writer xs
unfolding fields_text
fields_text-flexible [] = refl
fields_text-flexible (x ∷ xs) = rw (field_text-flexible x, fields_text-flexible xs) refl

is_blank-flexible : (xs : List (List ℕ)) → is_blank flexible xs ≡ is_blank default_writer xs
unfolding is_blank
is_blank-flexible [] = refl
is_blank-flexible (x ∷ []) = rw (field_text-flexible x) refl
is_blank-flexible (x ∷ y ∷ ys) = refl

pub row_text-flexible : (xs : List (List ℕ)) → row_text flexible xs ≡ row_text default_writer xs
row_text-flexible [] = rw (is_blank-flexible []) refl
row_text-flexible (x ∷ xs) = rw (field_text-flexible x, fields_text-flexible xs, is_blank-flexible (x ∷ xs)) refl

-- what a source says of the row at a place is so of that row
pub row_is : (rows : List StoredRow) (place : ℕ) (P : StoredRow → Type 0) → place < length rows → IsSomeAnd (slice_get rows place) P
    → P (row_in rows place)
row_is rows place P within says =
    subst (λ (o : Option StoredRow). IsSomeAnd o P) (slice_get-get_or rows place (bare_row []) within) says

-- one more cell
pub cells-more : (cells : List (TermOf (List ℕ))) (i : ℕ) (term : TermOf (List ℕ)) → slice_get cells i ≡ Some term
    → take (i + 1) cells ≡ take i cells ++ term ∷ []
cells-more cells i term is =
    take_more cells i term (slice_get_within cells i term is)
    ∙ ap (λ (t : TermOf (List ℕ)). take i cells ++ t ∷ []) (get_or_from_slice_get cells i term term is)

-- the writer has written a table of this header and these rows, whose numbers and ends have texts
pub record SoFar (header : List (List ℕ)) (rows : List StoredRow) (w : Writer (Vec ℕ Global)) : Type 0 where
  pub between : IsBetween w
  pub text : written_text w ≡ table_text header rows
  pub fits : All (λ r. All FitsWord r.cells) rows
  pub ends : All (λ r. HasStorableEnds r.span) rows

pub so_far-none : (header : List (List ℕ)) (w : Writer (Vec ℕ Global)) → IsBetween w
    → written_text w ≡ row_text default_writer header → SoFar header [] w
so_far-none header w between text = record {
  between = between;
  text = text ∙ sym (append-nil (row_text default_writer header));
  fits = All-nil (λ (r : StoredRow). All FitsWord r.cells);
  ends = All-nil (λ (r : StoredRow). HasStorableEnds r.span);
}

pub so_far-more : (header : List (List ℕ)) (rows : List StoredRow) (r : StoredRow) (v w : Writer (Vec ℕ Global))
    → SoFar header rows v → HasWritten r v w → SoFar header (rows ++ r ∷ []) w
so_far-more header rows r v w before wrote =
    let more : table_text header (rows ++ r ∷ []) ≡ table_text header rows ++ row_text default_writer (record_of r) =
    simp (map-append, flat_map-append, append-nil, append_assoc) in
    record {
      between = wrote.between;
      text = wrote.text ∙ rw before.text (sym more);
      fits = All-push (λ (x : StoredRow). All FitsWord x.cells) rows r before.fits wrote.fits;
      ends = All-push (λ (x : StoredRow). HasStorableEnds x.span) rows r before.ends wrote.ends;
    }

storable-term : (t : TermOf (List ℕ)) → IsNumberedFromOne t → FitsWord t → IsStorable t
storable-term (constant text) from fits = tt
storable-term (unknown (numbered n)) from fits = (from, fits)
storable-term (unknown (named rule frontier var)) from fits = from

-- rows with numbers from 1 and with texts can be stored
pub storable-rows : (rows : List StoredRow) → All AreNumbered rows → All (λ r. All FitsWord r.cells) rows
    → All (λ r. HasStorableEnds r.span) rows → All IsStorableRow rows
storable-rows rows numbers fits ends = λ k d lt. record {
  terms = λ j e in_row. storable-term _ (numbers k d lt j e in_row) (fits k d lt j e in_row);
  ends = ends k d lt;
}
