-- How reads and writes that follow each other join, where the bytes are known.
use Rattle.std.proofs.Common.{ℕ, ◌+◌, ◌-◌, List, ◌++◌, length, take, drop, None, Some, sym, ap, ◌∙◌, append_assoc}
use Rattle.std.proofs.Math.Seq.{take-add}
use Rattle.std.proofs.lemmas.List.{take_rest}
use Rattle.std.specs.declared.option.Option.{Option}
use Rattle.std.specs.declared.result.Result.{Result}
use Rattle.std.specs.declared.result.Result.TheVariants.{Ok, Err}
use Rattle.std.specs.Io.KnownBytes.{Appends, Keeps, Consumes, ReadConsumes, WriteAppends}

keeps_keeps : (a b c : Option (List ℕ)) → Keeps a b → Keeps b c → Keeps a c
keeps_keeps None b c first second = tt
keeps_keeps (Some xs) None c first second = absurd first
keeps_keeps (Some xs) (Some ys) None first second = absurd second
keeps_keeps (Some xs) (Some ys) (Some zs) first second = second ∙ first

keeps_consumes : (a b c : Option (List ℕ)) (bytes : List ℕ) → Keeps a b → Consumes b c bytes → Consumes a c bytes
keeps_consumes None b c bytes first second = tt
keeps_consumes (Some xs) None c bytes first second = absurd first
keeps_consumes (Some xs) (Some ys) None bytes first second = absurd second
keeps_consumes (Some xs) (Some ys) (Some zs) bytes first second = sym first ∙ second

-- a read after calls that read nothing
pub keeps_reads : {E : Type 0} (a b c : Option (List ℕ)) (r : Result ℕ E) (buffer : List ℕ) →
    Keeps a b → ReadConsumes b c r buffer → ReadConsumes a c r buffer
keeps_reads a b c (Ok n) buffer first second = (keeps_consumes a b c _ first second.0, second.1)
keeps_reads a b c (Err e) buffer first second = keeps_keeps a b c first second

keeps_appends : (a b c : Option (List ℕ)) (bytes : List ℕ) → Keeps a b → Appends b c bytes → Appends a c bytes
keeps_appends None b c bytes first second = tt
keeps_appends (Some xs) None c bytes first second = absurd first
keeps_appends (Some xs) (Some ys) None bytes first second = absurd second
keeps_appends (Some xs) (Some ys) (Some zs) bytes first second = second ∙ ap (λ front. front ++ bytes) first

-- a write after calls that wrote nothing
pub keeps_writes : {E : Type 0} (a b c : Option (List ℕ)) (r : Result ℕ E) (buffer : List ℕ) →
    Keeps a b → WriteAppends b c r buffer → WriteAppends a c r buffer
keeps_writes a b c (Ok n) buffer first second = keeps_appends a b c _ first second
keeps_writes a b c (Err e) buffer first second = keeps_keeps a b c first second

appends_appends : (a b c : Option (List ℕ)) (xs ys : List ℕ) → Appends a b xs → Appends b c ys → Appends a c (xs ++ ys)
appends_appends None b c xs ys first second = tt
appends_appends (Some as1) None c xs ys first second = absurd first
appends_appends (Some as1) (Some bs) None xs ys first second = absurd second
appends_appends (Some as1) (Some bs) (Some cs) xs ys first second = second ∙ ap (λ front. front ++ ys) first ∙ append_assoc as1 xs ys

-- a write of the next bytes
pub appends_next : (a b c : Option (List ℕ)) (bytes : List ℕ) (sent count : ℕ) → Appends a b (take sent bytes) →
    Appends b c (take count (take (length bytes - sent) (drop sent bytes))) → Appends a c (take (sent + count) bytes)
appends_next a b c bytes sent count first second =
    let next : Appends b c (take count (drop sent bytes)) = rw take_rest at second in
    rw take-add (appends_appends a b c (take sent bytes) (take count (drop sent bytes)) first next)
