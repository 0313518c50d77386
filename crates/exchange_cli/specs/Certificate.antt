-- The certificate that is stored where some instant has no solution.
use Rattle.std.specs.Prelude.{◌≡◌, ℕ, List, [], ◌∷◌}
use Rattle.failure_trace.specs.declared.trace.Trace.{Trace}
use Rattle.failure_trace.specs.Printed.{trace_text}
use Rattle.failure_trace.specs.TraceRun.{IsAccepted}
use Rattle.failure_trace.specs.TraceText.{IsTrace}
use Rattle.exchange_cli.specs.Inputs.{Inputs, name_of, source_of}
use Rattle.exchange_cli.specs.Files.{IsVerdict}
use Rattle.exchange_cli.specs.Endings.{printed_of}
use Rattle.exchange_cli.specs.Judged.{HasNoneAt}
use Rattle.exchange_cli.specs.declared.file.FileOut.{FileOut}
use Rattle.exchange_cli.specs.declared.ending.Finding.TheVariants.{NoSolution}
use Rattle.exchange_cli.specs.declared.product.Product.{Product}

-- the trace run accepts the trace on the mapping and the source that were read, and so its instant has no solution
pub record Refutes (inputs : Inputs) (trace : Trace) : Type 0 where
  pub accepted : IsAccepted (name_of inputs) inputs.mapping.rules (source_of inputs) trace
  pub none : HasNoneAt inputs trace.instant

-- the file is the verdict below the prefix and the text of the trace, which is read as this trace and no other; the trace refutes what
-- was read
pub record IsCertificate (inputs : Inputs) (prefix : List ℕ) (trace : Trace) (file : FileOut) : Type 0 where
  pub verdict : IsVerdict prefix (trace_text trace) file
  pub read : IsTrace file.bytes trace
  pub one : (other : Trace) → IsTrace file.bytes other → other ≡ trace
  pub refutes : Refutes inputs trace

-- the product is the certificate alone, and its instant
pub record IsUnsolved (inputs : Inputs) (prefix : List ℕ) (product : Product) : Type 0 where
  pub trace : Trace
  pub file : FileOut
  pub certificate : IsCertificate inputs prefix trace file
  pub files : product.files ≡ file ∷ []
  pub found : product.finding ≡ NoSolution trace.instant
  pub line : product.line ≡ printed_of product.finding
