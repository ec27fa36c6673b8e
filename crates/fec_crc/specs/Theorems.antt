-- Document 01, constants.rs and `check_crc_bits`: what is claimed of the two tests; proved in proofs/.
use Rattle.std.specs.Prelude.{◌≡◌, List, ℕ, length}
use Rattle.laws.specs.Bits.{AreBits}
use Rattle.spec_en300401.specs.Bytes.{bytes_of_bits}
use Rattle.fec_crc.specs.Tests.{byte_test, bit_test}

-- on 256 zeros and ones the bit test, and the byte test of the packed bytes, are the same yes or no (tests_agree)
abbrev pub TestsAgree : Type 0
TestsAgree = (bs : List ℕ) → length bs ≡ 256 → AreBits bs → bit_test bs ≡ byte_test (bytes_of_bits bs)
