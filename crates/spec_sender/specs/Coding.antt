-- Clauses 10 and 11.1, for the FIC and the MSC alike: how a block of bytes becomes the bits that are sent.
use Rattle.std.specs.Prelude.{List, ◌++◌, ℕ, ◌-◌, length, replicate}
use Rattle.spec_en300401.specs.Bytes.{bits_of_bytes}
use Rattle.spec_en300401.specs.Dispersal.{disperse}
use Rattle.spec_en300401.specs.MotherCode.{code_word}
use Rattle.spec_en300401.specs.Puncturing.{Region, mask, puncture}

-- clause 10: the block's bits, high bit first, dispersed from the sequence's start
unfoldable pub message : List ℕ → List ℕ
message block = disperse (bits_of_bytes block)

-- clause 11.1: the message encoded from state 0, with the six zero bits after it, and punctured by a profile
unfoldable pub sent : List Region → List ℕ → List ℕ
sent profile block = puncture (mask profile) (code_word (message block))

-- clause 11.3.1: zero bits after it, up to n
unfoldable pub padded : ℕ → List ℕ → List ℕ
padded n bits = bits ++ replicate (n - length bits) 0
