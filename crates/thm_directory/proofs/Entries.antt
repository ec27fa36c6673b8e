-- Which entries count, what set-up says of a short form, and that the FIC handler writes FIBs.
-- Assumes nothing.
use mathlib.Core.Path.{◌≡◌, refl, sym, ap, ◌∙◌, subst}
use mathlib.Core.Bool.{Bool, false}
use mathlib.Core.List.{List, [], ◌∷◌, ◌++◌, append_assoc}
use mathlib.Core.Option.{Option, none, some}
use Prim.Native.Nat.{ℕ, zero, suc, ◌+◌, ◌*◌, ◌/◌, ◌%◌, ◌<◌, ◌≤◌}
use native.Mathlib.Omega.{arith}
use native.Mathlib.Nat.{mod-lt}
use borrow.Author.Tests.{lt-ltb, le-ltb, ne_eqb}
use lib.Dec.{T, eqb, eqb→eq}
use lib.ListN.{length, get_or, take, drop, length-set, length-append}
use lib.Seq.{get_or-set_same, get_or-set_other, take_at, drop_at}
use Rattle.laws.specs.Tables.{every}
use Rattle.laws.specs.Lists.{find}
use Rattle.laws.proofs.Tables.{rule_at}
use Rattle.refusal.specs.Outcome.{check, first_of, or_else}
use Rattle.spec_en300401.specs.Fib.{Fig, field_from, broken_at, before as with-fig, end_marker, type_in, length_in}
use Rattle.spec_en300401.specs.Puncturing.{kept_size}
use Rattle.spec_en300401.specs.Uep.{Row, uep_table, no_row, is_for, uep_row, regions_of, uep_profile}
use Rattle.spec_en300401.proofs.Uep.{uep_law}
use Rattle.spec_en300401.specs.Organisation.{SubChannel, Service, Entry, sub_channel, service, start_in, short_form}
use Rattle.spec_en300401.specs.Directory.{Listed, place_for, put_at, enter, enter_all}
use Rattle.fec_protection.specs.Refusals.{is_none, profile_of, uep_none, row_refusals, row_refusal_of, outside, uep_shape, shape_refusals, refusal_of}
use Rattle.fec_protection.proofs.Profiles.{refusal_split}
use Rattle.fec_protection.proofs.Shapes.{uep-place}
use Rattle.fic_handler.specs.Blocks.{written, total}
use Rattle.fic_handler.proofs.Run.{written-length}
use Rattle.fic_directory_places.specs.Promises.{description_of}
use Rattle.thm_directory.specs.Entries.{NotFor, no_more, other_sub, a_service, LaterWins, header_of, bytes_of, one_more, BeforeBroken, ShortAccepted, HandlerWrites}
use Rattle.thm_directory.proofs.Calls.{length-fibs}
use Rattle.thm_directory.proofs.Same.{enter-append}

-- ---- a later entry wins

list_long : (o : Option ℕ) (s : Service) (l : Listed) → (put_at o s l).directory.subs ≡ l.directory.subs
list_long none s l = refl
list_long (some p) s l = refl

enter-long : (x : Entry) (l : Listed) → length (enter x l).directory.subs ≡ length l.directory.subs
unfolding enter
enter-long (sub_channel id c) l = length-set l.directory.subs id (some c)
enter-long (service s) l = ap length (list_long (place_for s l.directory.services) s l)

all-long : (es : List Entry) (l : Listed) → length (enter_all es l).directory.subs ≡ length l.directory.subs
unfolding enter_all
all-long [] l = refl
all-long (x ∷ es) l = all-long es (enter x l) ∙ enter-long x l

kept : {id : ℕ} {fs : List Entry} → NotFor id fs → (l : Listed) → get_or (enter_all fs l).directory.subs id none ≡ get_or l.directory.subs id none
unfolding enter_all enter
kept no_more l = refl
kept {id} (other_sub {j} {c} {es} n r) l = kept r (enter (sub_channel j c) l) ∙ get_or-set_other l.directory.subs j id (some c) none n
kept {id} (a_service {s} {es} r) l = kept r (enter (service s) l) ∙ ap (λ (xs : List (Option SubChannel)). get_or xs id none) (list_long (place_for s l.directory.services) s l)

pub later_wins : LaterWins
unfolding enter_all enter
later_wins id c es fs l n h =
    let m = enter_all es l in
    ap (λ (k : Listed). get_or k.directory.subs id none) (enter-append es (sub_channel id c ∷ fs) l)
    ∙ kept n (enter (sub_channel id c) m) ∙ get_or-set_same m.directory.subs id (some c) none (omega (arith, all-long es l))

-- ---- a broken FIG

pub before-broken : BeforeBroken
unfolding field_from bytes_of
before-broken [] h rest zero o w m l k = absurd (omega arith)
before-broken [] h rest (suc n) o w m l k =
    let z : o ≡ o + 0 = omega arith in
    rw (ne_eqb h end_marker m, lt-ltb (length rest) (length_in h) l) (ap broken_at z)
before-broken (g ∷ gs) h rest zero o w m l k = absurd (omega arith)
before-broken (g ∷ gs) h rest (suc n) o (one_more s t w) m l k =
    let back : List ℕ = bytes_of gs ++ (h ∷ rest) in
    let len : length_in (header_of g) ≡ length g.body = omega arith in
    let kind : type_in (header_of g) ≡ g.type = omega arith in
    let all : (g.body ++ bytes_of gs) ++ (h ∷ rest) ≡ g.body ++ back = append_assoc g.body (bytes_of gs) (h ∷ rest) in
    let fig : ℕ → List ℕ → Fig = λ (a : ℕ) (xs : List ℕ). record { type = a; body = xs } in
    let fits : length_in (header_of g) ≤ length (g.body ++ back) = omega (arith, len, length-append g.body back) in
    let far : o + 1 + length g.body + length (bytes_of gs) ≡ o + length (header_of g ∷ (g.body ++ bytes_of gs)) = omega (arith, length-append g.body (bytes_of gs)) in
    ap (λ (xs : List ℕ). field_from (suc n) o (header_of g ∷ xs)) all
    ∙ rw (ne_eqb (header_of g) end_marker t, le-ltb (length (g.body ++ back)) (length_in (header_of g)) fits)
    ((λ i. with-fig (fig (kind i) (take (len i) (g.body ++ back))) (field_from n (o + 1 + len i) (drop (len i) (g.body ++ back))))
    ∙ (λ i. with-fig (fig g.type (take_at g.body back (length g.body) refl i)) (field_from n (o + 1 + length g.body) (drop_at g.body back (length g.body) refl i)))
    ∙ ap (with-fig g) (before-broken gs h rest n (o + 1 + length g.body) w m l (omega arith))
    ∙ ap (λ (p : ℕ). record { figs = g ∷ gs; broken = some p }) far)

-- ---- a short form at set-up

same_units : Row → Option Row → Bool
same_units p none = false
same_units p (some q) = eqb q.units p.units

found : ℕ → Row → Bool
found k p = same_units p (uep_row p.rate p.level)

all_found : T (every found 0 uep_table)
unfolding found same_units uep_row is_for find uep_table
all_found = tt

rows : length uep_table ≡ 64
unfolding uep_table
rows = refl

-- the refusal of a UEP description whose row is there and fills its size
by_row : (start units rate level : ℕ) (q : Row) → uep_row rate level ≡ some q → q.units ≡ units → refusal_of (description_of (record { start = start; size = units; rate = rate; level = level; option = 0; eep = false })) ≡ outside start units
unfolding row_refusal_of row_refusals shape_refusals profile_of uep_none uep_profile
by_row start units rate level q e f =
    let d = description_of (record { start = start; size = units; rate = rate; level = level; option = 0; eep = false }) in
    let law = uep_law rate level e in
    let needed : kept_size (regions_of (uep_row rate level)) ≡ kept_size q.regions = ap (λ (o : Option Row). kept_size (regions_of o)) e in
    refusal_split d
    ∙ ap (λ (o : Option Row). or_else (first_of (check 4 (is_none o) ∷ [])) (first_of (uep_shape start units (kept_size (regions_of o))))) e
    ∙ uep-place start units (kept_size q.regions) (omega (arith, law.fills)) (omega (arith, law.fills, law.padding))

pub short-accepted : ShortAccepted
unfolding short_form found same_units
short-accepted a b c h = go (uep_row (get_or uep_table (c % 64) no_row).rate (get_or uep_table (c % 64) no_row).level) refl (rule_at found no_row uep_table all_found (c % 64) (subst (λ (n : ℕ). c % 64 < n) (sym rows) (mod-lt c (omega arith))))
  where
    go : (o : Option Row) → uep_row (get_or uep_table (c % 64) no_row).rate (get_or uep_table (c % 64) no_row).level ≡ o → T (same_units (get_or uep_table (c % 64) no_row) o)
        → refusal_of (description_of (record { start = start_in a b; size = (get_or uep_table (c % 64) no_row).units; rate = (get_or uep_table (c % 64) no_row).rate; level = (get_or uep_table (c % 64) no_row).level; option = 0; eep = false })) ≡ outside (start_in a b) (get_or uep_table (c % 64) no_row).units
    go none e t = absurd t
    go (some q) e t = by_row (start_in a b) (get_or uep_table (c % 64) no_row).units (get_or uep_table (c % 64) no_row).rate (get_or uep_table (c % 64) no_row).level q e (eqb→eq q.units (get_or uep_table (c % 64) no_row).units t)

-- ---- the FIC handler

pub handler_writes : HandlerWrites
handler_writes xs n before after r p =
    let long : length (written p.block n) ≡ 32 * total p.block n = written-length p.block n p.each in
    let out = take (32 * total p.block n) after.fibs in
    let is : out ≡ written p.block n = ap (take (32 * total p.block n)) p.fibs ∙ take_at (written p.block n) (drop (32 * total p.block n) before.fibs) (32 * total p.block n) long in
    let size : length out ≡ 32 * total p.block n = ap length is ∙ long in
    record { length_is = size; fibs_are = length-fibs (length out / 32) out ∙ omega (arith, size) }
