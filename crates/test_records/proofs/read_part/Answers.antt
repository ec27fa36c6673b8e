-- What came stands in the part of the buffer that was lent, at most 65,535 places.
use Rattle.std.proofs.Common.{◌≡◌, ℕ, ◌≤◌, List, ◌++◌, length, drop, arith, length-append, length-take}
use Rattle.std.proofs.lemmas.Slice.{drop-append-drop}
use Rattle.test_records.specs.Records.{Part}
use Rattle.test_records.proofs.read_part.Goals as goal

part_of : (old came : List ℕ) (m r : ℕ) → length came ≡ m → m ≤ 65535 → r ≤ length came → Part old r (came ++ drop m old)
part_of old came m r filled most inside = record {
  inside = omega (arith, length-append came (drop m old));
  long = omega (arith, length-append came (drop m old), length-take r (came ++ drop m old));
  most = omega arith;
  beyond = drop-append-drop m old came 65535 most filled;
}

pub returns : goal.returns
returns g c =
    let most : c.min-n.result ≤ 65535 = omega arith in
    let filled : length c.read_full-got.new.buf ≡ c.min-n.result = omega (arith, length-take c.min-n.result c.args.buf.now) in
    part_of _ _ _ _ filled most c.read_full-got.ensures.inside
