-- `fec_crc::fib_crc_valid` meets its contract: the word of the first 30 bytes against bytes 30 and 31.
-- Assumes nothing.
use borrow.Author.Rules.{rules}
use mathlib.Core.Path.{sym, ap, ◌∙◌}
use Prim.Native.Nat.{ℕ, ◌-◌, ◌<◌}
use native.Mathlib.Omega.{arith}
use lib.Dec.{eqb}
use lib.ListN.{length, get_or}
use lib.Seq.{length-take-le}
use Rattle.std.specs.Prelude.{fold}
use Rattle.laws.specs.Bits.{bits_of}
use Rattle.spec_en300401.specs.Crc.{crc_from, fib_bytes_valid}
use Rattle.fec_crc.proofs.Bits.{over_bytes}
use Rattle.fec_crc.proofs.Byte.{byte_test_lem, too_short, fib_test}
use Rattle.fec_crc.proofs.fib_crc_valid.Goals as goal

pub returns-in_default : goal.returns-in_default
returns-in_default c = too_short c.args.fib.now c.in_default.ensures.cases

pub returns : goal.returns
returns c =
    let h = c.in-Some.ensures.cases in
    let sent = c.split_at.result.1.now in
    let a : get_or sent 0 0 < 256 = search rules in
    let b : get_or sent 1 0 < 256 = search rules in
    ap (eqb (0xffff - c.crc_bytes.result)) c.from_be_bytes.ensures
    ∙ fib_test c.in-Some.fib.now sent c.crc_bytes.result c.split_at.ensures.back (omega (arith, c.split_at.ensures.back_len, ap length h.same, length-take-le 32 c.args.fib.now h.enough)) a b
    (c.crc_bytes.ensures ∙ ap (fold (λ (r y : ℕ). crc_from r (bits_of 8 y)) 0xffff) c.split_at.ensures.front ∙ over_bytes 0xffff _)
    ∙ ap fib_bytes_valid h.same ∙ sym (byte_test_lem c.args.fib.now h.enough)
