use Rattle.exchange_cli.proofs.FileLemmas.{distinct_files}
use Rattle.exchange_cli.proofs.laws.files_of_a_product_have_distinct_names.Goals as goal

pub returns : goal.returns
returns c = distinct_files
