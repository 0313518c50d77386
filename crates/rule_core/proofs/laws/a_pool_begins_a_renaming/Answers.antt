use Rattle.rule_core.proofs.PoolRenaming.{pool_first}
use Rattle.rule_core.proofs.laws.a_pool_begins_a_renaming.Goals as goal

pub returns : goal.returns
returns c = pool_first
