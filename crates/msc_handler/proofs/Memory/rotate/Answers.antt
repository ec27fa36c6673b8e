-- The slice, and what is given of `deinterleaved`, have as many values.
use Rattle.std.proofs.Common.{◌≡◌, ap, ap₂, ◌∙◌, ◌+◌, ◌*◌, ◌-◌, ◌≤◌, ℕ, ℤ, List, ◌++◌, length, drop, length-drop, arith}
use Rattle.std.proofs.Math.Seq.{length-take-le}
use Rattle.fec_protection.specs.declared.Description.{Description}
use Rattle.msc_handler.specs.Memory.{buffers_in}
use Rattle.msc_handler.specs.Promises.{buffers, slice_of}
use Rattle.msc_handler.specs.Ring.{part, read_out, refilled}
use Rattle.msc_handler.proofs.Memory.rotate.Goals as goal

own_is : (d : Description) (cif : List ℤ) {s n : ℕ} → s ≡ d.start_addr → n ≡ d.sub_size → {own : List ℤ} → own ≡ part cif (64 * s) (64 * s + 64 * n - 64 * s) → own ≡ slice_of d cif
own_is d cif p q e =
    let same : 64 * d.start_addr + 64 * d.sub_size - 64 * d.start_addr ≡ 64 * d.sub_size = omega arith in
    e ∙ (λ i. part cif (64 * p i) (64 * p i + 64 * q i - 64 * p i)) ∙ ap (λ (n : ℕ). part cif (64 * d.start_addr) n) same

slice_long : (d : Description) (cif : List ℤ) → d.start_addr + d.sub_size ≤ 864 → 55296 ≤ length cif → length (slice_of d cif) ≡ 64 * d.sub_size
unfolding part
slice_long d cif inside long = length-take-le (64 * d.sub_size) (drop (64 * d.start_addr) cif) (omega (arith, length-drop (64 * d.start_addr) cif))

pub deinterleave-requires : goal.deinterleave-requires
deinterleave-requires c =
    let d = c.args.channel.description in
    let cif = c.args.self.now.cif.now in
    let n = c.from-n.result in
    let size = c.from-n.ensures in
    let read = length-take-le (64 * n) c.args.self.now.deinterleaved.now (omega (arith, c.requires.read_long)) in (
      omega (arith, c.requires.index),
      omega (arith, read, c.requires.ring_long),
      ap length (own_is d cif c.from-from.ensures size c.own_slice-own.ensures) ∙ slice_long d cif c.requires.inside c.requires.cif_long ∙ omega (arith, read),
    )

pub returns-clause-promise : goal.returns-clause-promise
returns-clause-promise c =
    let ch = c.args.channel in
    let d = ch.description in
    let b = buffers_in c.args.self.now in
    let x = c.from.ensures in
    let size : 64 * c.from-n.result ≡ 64 * d.sub_size = ap (λ (k : ℕ). 64 * k) c.from-n.ensures in
    let long = length-take-le (64 * c.from-n.result) b.deinterleaved (omega (arith, c.requires.read_long)) ∙ size in
    let own = own_is d b.cif c.from-from.ensures c.from-n.ensures c.own_slice-own.ensures in
    let ring = c.deinterleave.ensures.1 ∙ (λ i. refilled b.ring (long i) (x i) (own i)) in
    let read = ap₂ (λ (r rest : List ℤ). r ++ rest) (c.deinterleave.ensures.0 ∙ (λ i. read_out b.ring (long i) (x i))) (ap (λ (k : ℕ). drop k b.deinterleaved) size) in
    λ i. buffers b.cif (ring i) (read i) b.depunctured b.words b.bits b.frame
