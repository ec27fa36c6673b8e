-- Document 01, fic/handler.rs and "What the receiver owes": a block that was heard clean, and what then comes out.
use Rattle.std.specs.Prelude.{◌≡◌, List, ℕ, zero, suc, ◌+◌, ◌*◌, ◌<◌, ◌≤◌, length, get_or, take, drop, ℤ, Result, Ok}
use Rattle.laws.specs.Integers.{at}
use Rattle.refusal.specs.declared.Refusal.{Refusal}
use Rattle.spec_trellis.specs.Clean.{Agrees}
use Rattle.spec_sender.specs.Fic.{Data, fibs_of, block_sent}
use Rattle.fic_handler.specs.declared.Fic.{Fic}
use Rattle.fic_handler.specs.Blocks.{joined, blocks_in, Buffers}
use Rattle.fic_handler.specs.Promise.{FicPromise}

-- a call of `process_fic` on three symbols that was not refused
pub record TakenCall : Type 0 where
  pub s1 : List ℤ
  pub s2 : List ℤ
  pub s3 : List ℤ
  pub before : Buffers
  pub result : Fic
  pub after : Buffers
  pub promise : FicPromise s1 s2 s3 before (Ok result) after

-- its values, joined
abbrev pub values_of : TakenCall → List ℤ
values_of c = joined c.s1 c.s2 c.s3

-- block b of the joined symbols is whole, and each of its values is nonzero and of the sent bit's sign
pub record Heard (f : Data) (xs : List ℤ) (b : ℕ) : Type 0 where
  pub whole : b < blocks_in xs
  pub agrees : (i : ℕ) → i < 2304 → Agrees (at xs (2304 * b + i)) (get_or (block_sent f) i 0)

-- how many FIBs passed in the blocks before block b
unfoldable pub passed_before : List ℕ → ℕ → ℕ
passed_before counts zero = 0
passed_before counts (suc b) = passed_before counts b + get_or counts b 0

-- block b's three FIBs come out: three are counted, and their bytes stand after those of the FIBs that passed before them
pub record ComeOut (f : Data) (b : ℕ) (r : Fic) (after : Buffers) : Type 0 where
  pub three : get_or r.passed b 0 ≡ 3
  pub bytes : take 96 (drop (32 * passed_before r.passed b) after.fibs) ≡ fibs_of f

-- all of n blocks: three FIBs each, and their bytes in order
pub record AllComeOut (fs : ℕ → Data) (n : ℕ) (r : Fic) (after : Buffers) : Type 0 where
  pub count : r.fibs ≡ 3 * n
  pub bytes : (b : ℕ) → b < n → take 96 (drop (96 * b) after.fibs) ≡ fibs_of (fs b)

-- the call is not refused, and all of n blocks come out
pub record GivenWhole (fs : ℕ → Data) (n : ℕ) (r : Result Fic Refusal) (after : Buffers) : Type 0 where
  pub fic : Fic
  pub given : r ≡ Ok fic
  pub all : AllComeOut fs n fic after

-- the caller's buffers have what four blocks need
pub record LongEnough (l : Buffers) : Type 0 where
  pub values : 3096 ≤ length l.depunctured
  pub words : 774 ≤ length l.words
  pub bits : 774 ≤ length l.bits
  pub fibs : 384 ≤ length l.fibs

-- the three symbols of one transmission frame, at full length
pub record FullSymbols (s1 s2 s3 : List ℤ) : Type 0 where
  pub first : length s1 ≡ 3072
  pub second : length s2 ≡ 3072
  pub third : length s3 ≡ 3072
