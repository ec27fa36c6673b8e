-- What `map` makes of four records, and where it is put.
use Rattle.std.proofs.Common.{◌≡◌, refl, sym, ap₂, ◌∙◌, List, map, ◌++◌, append_assoc, ℕ, length, drop, take_at, arith, rules}
use Rattle.std.proofs.Math.ListN.{get_or-map}
use Rattle.std.proofs.lemmas.List.{length-map}
use Rattle.std.proofs.lemmas.Slice.{drop-append-drop}
use Rattle.std.specs.Array.{IsMapOf}
use Rattle.std.specs.Fn.{Called}
use denote.Param.Members.{Mut}
use borrow.Rule.Slice.PartMut.{put_mid}
use lib.Seq.{ext_get_or}
use Rattle.laws.proofs.Slices.{part-put}
use Rattle.fec_quality.specs.declared.Quality.{Quality}
use Rattle.fec_quality.specs.Figures.{nothing}
use Rattle.c_fic.proofs.put_qualities.Goals as goal

mapped : {F A B : Type 0} {g : Mut F (A × Unit {0}) B} {f : F} {xs : List A} {ys : List B} {n : ℕ} (v : A → B) (d : A) → length xs ≡ n
    → ((p q : F) (x : A) (y : B) → Called g p (x, tt) y q → y ≡ v x) → IsMapOf g f xs ys n → ys ≡ map v xs
mapped {xs = xs} {ys} v d e one h =
    ext_get_or (v d) ys (map v xs) (h.long ∙ sym e ∙ sym (length-map xs v)) (λ i l. let c = h.at i d (v d) (omega (arith, h.long)) in one _ _ _ _ c.2 ∙ sym (get_or-map v xs i d))

-- four and four, before the rest
placed : {A : Type 0} (a b m : List A) → length a ≡ 4 → put_mid 4 4 (a ++ drop 4 m) b ≡ (a ++ b) ++ drop 8 m
placed {A} a b m e =
    part-put 4 8 (a ++ drop 4 m) b (omega arith) ∙ ap₂ (λ (p q : List A). p ++ (b ++ q)) (take_at a (drop 4 m) 4 e) (drop-append-drop 4 m a 8 (omega arith) e)
    ∙ sym (append_assoc a b (drop 8 m))

pub returns-clause-metrics : goal.returns-clause-metrics
returns-clause-metrics c =
    let a = mapped (λ (q : Quality). q.metric) nothing (omega arith) (λ p q x y k. search rules) c.map.ensures.items in
    let b = mapped (λ (q : Quality). q.sum) nothing (omega arith) (λ p q x y k. search rules) c.map-2.ensures.items in
    rw (c.copy_from_slice.ensures.after, c.copy_from_slice-2.ensures.after, a, b) (placed _ _ c.args.metrics.now (length-map c.args.quality _ ∙ omega arith))

pub returns-clause-percents : goal.returns-clause-percents
returns-clause-percents c =
    let a = mapped (λ (q : Quality). q.percent) nothing (omega arith) (λ p q x y k. search rules) c.map-3.ensures.items in
    rw (c.copy_from_slice-3.ensures.after, a) refl
