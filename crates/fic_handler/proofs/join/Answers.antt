-- Each symbol stands behind those before it.
use Rattle.std.proofs.Common.{◌≡◌, refl, ap, ◌∙◌, List, ◌++◌, append_assoc, ℕ, ◌+◌, ◌-◌, ◌≤◌, ℤ, length, take, drop, arith, length-append, length-take, take_at}
use Rattle.std.proofs.lemmas.Slice.{take-put_mid}
use borrow.Rule.Slice.PartMut.{put_mid}
use Rattle.fic_handler.specs.Blocks.{joined}
use Rattle.fic_handler.proofs.join.Goals as goal

module _ (values a b c : List ℤ) where
  two : List ℤ
  two = put_mid (length a) (length a + length b - length a) (a ++ drop (length a) values) b

  two_are : take (length a + length b) two ≡ a ++ b
  unfolding two
  two_are =
      take-put_mid (length a) (length a + length b - length a) (a ++ drop (length a) values) b (length a + length b) refl (omega (arith, length-append a (drop (length a) values)))
      ∙ ap (λ (l : List ℤ). l ++ b) (take_at a (drop (length a) values) (length a) refl)

  two_long : length a + length b ≤ length two
  two_long = omega (arith, length-take (length a + length b) two, ap length two_are, length-append a b)

  all_are : (k : ℕ) → take (length a + length b + length c) (put_mid (length a + length b) k two c) ≡ joined a b c
  all_are k = take-put_mid (length a + length b) k two c (length a + length b + length c) refl two_long ∙ ap (λ (l : List ℤ). l ++ c) two_are ∙ append_assoc a b c

  copied : (k : ℕ) {x y z : List ℤ} → x ≡ a → y ≡ b → z ≡ c
      → take (length a + length b + length c) (put_mid (length a + length b) k (put_mid (length a) (length a + length b - length a) (x ++ drop (length a) values) y) z) ≡ joined a b c
  unfolding two
  copied k p q r = rw (p, q, r) (all_are k)

pub returns : goal.returns
returns c = copied _ c.args.first.now c.args.second.now c.args.third.now _ c.copy_from_slice.ensures.after c.copy_from_slice-2.ensures.after c.copy_from_slice-3.ensures.after
