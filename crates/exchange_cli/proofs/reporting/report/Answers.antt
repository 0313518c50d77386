-- The line of each ending is the two parts that are written.
use Rattle.exchange_cli.proofs.reporting.report.Goals as goal

pub returns-in-Missing : goal.returns-in-Missing
returns-in-Missing g c = rw c.in-Missing.is (rw c.as_bytes.ensures.value at c.say-in-Missing.ensures)

pub returns-in-TooLong : goal.returns-in-TooLong
returns-in-TooLong g c = rw c.in-TooLong.is (rw c.as_bytes-in-TooLong.ensures.value at c.say-in-TooLong.ensures)

pub returns-in-Mapping : goal.returns-in-Mapping
returns-in-Mapping g c = rw c.in-Mapping.is c.say_mapping.ensures

pub returns-in-Table : goal.returns-in-Table
returns-in-Table g c = rw c.in-Table.is c.say_table.ensures

pub returns-in-Trace : goal.returns-in-Trace
returns-in-Trace g c = rw c.in-Trace.is c.say_trace.ensures

pub returns-in-Read : goal.returns-in-Read
returns-in-Read g c = rw c.in-Read.is (rw c.as_bytes-in-Read.ensures.value at c.say-in-Read.ensures)

pub returns-in-Write : goal.returns-in-Write
returns-in-Write g c = rw c.in-Write.is (rw c.as_bytes-in-Write.ensures.value at c.say-in-Write.ensures)

pub returns-in-Output : goal.returns-in-Output
returns-in-Output g c = rw c.in-Output.is c.say-in-Output.ensures

pub returns-in-Memory : goal.returns-in-Memory
returns-in-Memory g c = rw c.in-Memory.is c.say-in-Memory.ensures
