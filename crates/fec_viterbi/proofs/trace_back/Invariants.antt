use Rattle.std.proofs.Common.{◌≡◌, ◌<◌, length, drop, ◌++◌}
use Rattle.spec_trellis.specs.Program.{traced}
use Rattle.fec_viterbi.proofs.trace_back.Given as goal

abbrev pub invariant-loop-k : goal.invariant-loop-k
invariant-loop-k l =
    record {
      size : length l.bits ≡ length l.initial.bits;
      state : l.state < 64;
      rest : traced l.words (length l.words) l.end ≡ traced l.words l.k l.state ++ drop l.k l.bits;
    }
