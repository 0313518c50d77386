-- How the program holds a command. No public clause cites this module.
use Rattle.exchange_cli.specs.declared.command.Origin.{Origin as LentOrigin}
use Rattle.exchange_cli.specs.declared.command.Command.{Command as Lent}
use Rattle.exchange_cli.specs.declared.command.Command.TheVariants as lent
use Rattle.exchange_cli.specs.Words.{Origin, Command, Exchange, Normalise, Snapshot, Check}

-- the words that it borrows
abbrev pub lent_origin : LentOrigin → Origin
lent_origin origin = record { mapping = origin.mapping.now; source = origin.source.now }

abbrev pub command_of : Lent → Command
command_of (lent.Exchange origin target) = Exchange (lent_origin origin) target.now
command_of (lent.Normalise origin out) = Normalise (lent_origin origin) out.now
command_of (lent.Snapshot origin t out) = Snapshot (lent_origin origin) t out.now
command_of (lent.Check origin trace) = Check (lent_origin origin) trace.now
