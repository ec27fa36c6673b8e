-- Clause 10, energy dispersal: P(X) = X^9 + X^5 + 1, the register's nine stages all ones at the start.
use Rattle.std.specs.Prelude.{List, ℕ, zero, suc, ◌+◌, ◌%◌}
use Rattle.std.specs.Int.Bits.{bit_xor}
use Rattle.laws.specs.Bits.{map_from}

-- the nine ones of the register, and then the sequence: each bit is the sum, modulo two, of those nine and five places before it
unfoldable pub stage : ℕ → ℕ
stage zero = 1
stage (suc zero) = 1
stage (suc (suc zero)) = 1
stage (suc (suc (suc zero))) = 1
stage (suc (suc (suc (suc zero)))) = 1
stage (suc (suc (suc (suc (suc zero))))) = 1
stage (suc (suc (suc (suc (suc (suc zero)))))) = 1
stage (suc (suc (suc (suc (suc (suc (suc zero))))))) = 1
stage (suc (suc (suc (suc (suc (suc (suc (suc zero)))))))) = 1
stage (suc (suc (suc (suc (suc (suc (suc (suc (suc n))))))))) = (stage n + stage (suc (suc (suc (suc n))))) % 2

-- bit n of the pseudo-random sequence
abbrev pub prbs : ℕ → ℕ
prbs n = stage (n + 9)

-- each value xored with its bit of the sequence, from the sequence's start
unfoldable pub disperse : List ℕ → List ℕ
disperse xs = map_from (λ (n x : ℕ). bit_xor x (prbs n)) 0 xs
