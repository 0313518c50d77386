-- A list of matches as it grows. No public clause cites this module.
use Rattle.std.specs.Prelude.{◌≡◌, [], ◌∷◌, ◌++◌}
use Rattle.body_match.specs.declared.found.Match.{Match}
use Rattle.body_match.specs.declared.listing.Listing.{Listing}

-- the match is listed last
abbrev pub Adds : Listing → Match → Listing → Type 0
Adds old found new = new.list.items ≡ old.list.items ++ found ∷ []
