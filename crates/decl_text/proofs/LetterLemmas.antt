-- Letters and bytes of names: the tests of the tokens' definitions say what names of a mapping are made of.
use Rattle.std.proofs.Common.{◌≡◌, ℕ, ◌<◌, true, arith}
use Rattle.std.proofs.lemmas.Bool.Decides.{nat_tests}
use Rattle.rule_core.specs.Names.{IsLetter, IsNameByte}
use Rattle.decl_text.specs.Tokens.{is_letter, is_name_byte}

pub letter : (b : ℕ) → is_letter b ≡ true → IsLetter b
letter b h = grind (arith, nat_tests)

pub name_byte : (b : ℕ) → is_name_byte b ≡ true → IsNameByte b
name_byte b h = grind (arith, nat_tests)

pub letter_of : (b : ℕ) → IsLetter b → is_letter b ≡ true
letter_of b letter = grind (arith, nat_tests)

pub name_byte_of : (b : ℕ) → IsNameByte b → is_name_byte b ≡ true
name_byte_of b name = grind (arith, nat_tests)

pub letter_is_name_byte : (b : ℕ) → is_letter b ≡ true → is_name_byte b ≡ true
letter_is_name_byte b letter = grind (arith, nat_tests)

pub name_byte_is_ascii : (b : ℕ) → is_name_byte b ≡ true → b < 128
name_byte_is_ascii b name = grind (arith, nat_tests)
