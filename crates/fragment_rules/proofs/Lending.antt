-- Lent bytes: nothing of a reader is lost in them, and the text that they show reads as what came.
-- Assumes nothing.
use mathlib.Core.Path.{◌≡◌, refl, sym, ◌∙◌, ap, subst}
use mathlib.Core.Bool.{Bool, true, false, not, cond}
use mathlib.Core.List.{List, [], ◌∷◌, ◌++◌}
use Prim.Native.Nat.{ℕ, ◌+◌, ◌*◌, ◌/◌, ◌%◌, ◌≤◌, ◌<◌}
use native.Mathlib.Decide.{dec_lt}
use native.Mathlib.Omega.{arith}
use lib.Dec.{eqb}
use lib.ListN.{length, get_or, take, length-append, length-take, get_or-eq_default}
use lib.Seq.{length-sets, take_at, take-take, take-append-le, get_or-append-add}
use borrow.Author.Tests.{le-ltb}
use Rattle.answers.specs.declared.Refusal.{Refusal}
use Rattle.version_reading.specs.declared.text.Verdict.TheVariants.{Accepted, Refused}
use Rattle.version_reading.specs.declared.text.VersionReading.{VersionReading}
use Rattle.version_reading.specs.Reading.{longest, version_of}
use Rattle.fragment_rules.specs.declared.reader.Reader.{Reader}
use Rattle.fragment_rules.specs.Reader.{fresh, counted, added, taken, marked, settled, given, said_by}
use Rattle.fragment_rules.specs.Events.{Event, lump, end, reset, Came, none, came_from, due, reader_of, step, run_from}
use Rattle.fragment_rules.specs.Lent.{flag, lent, reader_in, Sound, lent_from, shown, text_in, Alike}
use Rattle.fragment_rules.proofs.Anchors.{empty_refused}
use Rattle.fragment_rules.proofs.Lumps.{same_reader, room, run_reader, held_whole, long_reading, said_due}
use Rattle.fragment_rules.proofs.Kept.{long_settled, ended_settled}

-- what is sound
pub fresh_sound : Sound fresh
fresh_sound = record { whole = room; few = omega arith }

added_sound : (r : Reader) (l : List ℕ) → Sound r → Sound (added r l)
added_sound r l s = record { whole = length-sets r.held r.count l ∙ s.whole; few = omega arith }

either_sound : (b : Bool) (r q : Reader) → Sound r → Sound q → Sound (cond b r q)
either_sound true r q s t = s
either_sound false r q s t = t

pub taken_sound : (r : Reader) (l : List ℕ) → Sound r → Sound (taken r l)
unfolding taken
taken_sound r l s = either_sound r.ended r (added r l) s (added_sound r l s)

pub marked_sound : (r : Reader) → Sound r → Sound (marked r)
marked_sound r s = record { whole = s.whole; few = s.few }

pub step_sound : (r : Reader) (e : Event) → Sound r → Sound (step r e)
step_sound r (lump l) s = taken_sound r l s
step_sound r end s = marked_sound r s
step_sound r reset s = fresh_sound

pub came_sound : (c : Came) → Sound (reader_of c)
unfolding reader_of
came_sound c = record { whole = length-sets fresh.held 0 c.text ∙ room; few = omega arith }

pub in_sound : (s : List ℕ) → length s ≡ 1027 → Sound (reader_in s)
unfolding reader_in
in_sound s h = record { whole = omega (arith, length-take 1024 s); few = omega arith }

-- the bytes after the text
tail_at : (k n : ℕ) (xs ys : List ℕ) → length xs ≡ k → get_or (xs ++ ys) (k + n) 0 ≡ get_or ys n 0
tail_at k n xs ys e = rw (← e) (get_or-append-add xs ys n 0)

flag_back : (b : Bool) → not (eqb (flag b) 0) ≡ b
flag_back true = refl
flag_back false = refl

module _ (r : Reader) (s : Sound r) where
  abbrev tail : List ℕ
  tail = r.count % 256 ∷ r.count / 256 ∷ flag r.ended ∷ []

  pub lent_length : length (lent r) ≡ 1027
  unfolding lent
  lent_length = omega (arith, length-append r.held tail, s.whole)

  count_back : counted (get_or (lent r) 1024 0 + 256 * get_or (lent r) 1025 0) ≡ r.count
  unfolding lent
  count_back = rw (tail_at 1024 0 r.held tail s.whole, tail_at 1024 1 r.held tail s.whole) (omega (arith, s.few))

  -- nothing is lost
  pub in_lent : reader_in (lent r) ≡ r
  unfolding lent reader_in
  in_lent =
      same_reader (take_at r.held tail 1024 s.whole) count_back
      (ap (λ (n : ℕ). not (eqb n 0)) (tail_at 1024 2 r.held tail s.whole) ∙ flag_back r.ended)

-- the events on lent bytes do what they do to the reader
pub lent_run : (r : Reader) (es : List Event) → Sound r → lent_from (lent r) es ≡ lent (run_from r es)
unfolding lent_from run_from
lent_run r [] s = refl
lent_run r (e ∷ es) s =
    ap (λ (q : Reader). lent_from (lent (step q e)) es) (in_lent r s) ∙ lent_run (step r e) es (step_sound r e s)

-- and from a new reader they leave what came
came_bytes : (es : List Event) → lent_from (lent fresh) es ≡ lent (reader_of (came_from none es))
came_bytes es = lent_run fresh es fresh_sound ∙ ap lent (run_reader es)

-- so they say what is due
pub lent_says : (es : List Event) → said_by (reader_in (lent_from (lent fresh) es)) ≡ due (came_from none es)
lent_says es =
    let c = came_from none es in
    ap (λ (s : List ℕ). said_by (reader_in s)) (came_bytes es)
    ∙ ap said_by (in_lent (reader_of c) (came_sound c))
    ∙ said_due c

-- the text that questions are asked of
module _ (r : Reader) (s : Sound r) where
  text_of : (b : Bool) → settled r ≡ b → text_in (lent r) ≡ take (cond b r.count 0) (lent r)
  unfolding text_in
  text_of b e =
      ap (λ (q : Reader). take (shown q) (lent r)) (in_lent r s) ∙ ap (λ (b : Bool). take (cond b r.count 0) (lent r)) e

  -- no verdict, no bytes
  pub text_none : settled r ≡ false → text_in (lent r) ≡ []
  text_none e = text_of false e

module _ (c : Came) where
  -- a verdict on a text that is held
  shown_whole : length c.text ≤ longest → settled (reader_of c) ≡ true → text_in (lent (reader_of c)) ≡ c.text
  unfolding lent reader_of
  shown_whole h e =
      let r = reader_of c in
      let s = came_sound c in
      let all : r.count ≡ length c.text = omega arith in
      text_of r s true e
      ∙ ap (λ (n : ℕ). take n (lent r)) all
      ∙ take-append-le (length c.text) r.held _ (omega (arith, s.whole))
      ∙ held_whole fresh.held c.text (omega (arith, room))

  pub text_whole : length c.text ≤ longest → c.ended ≡ true → text_in (lent (reader_of c)) ≡ c.text
  unfolding reader_of
  text_whole h e = shown_whole h (ended_settled (reader_of c) e)

  pub text_long : longest < length c.text → length (text_in (lent (reader_of c))) ≡ longest + 1
  unfolding reader_of
  text_long h =
      let r = reader_of c in
      let s = came_sound c in
      let over : r.count ≡ longest + 1 = omega arith in
      ap length (text_of r s true (long_settled r (omega arith)))
      ∙ length-take r.count (lent r)
      ∙ omega (arith, lent_length r s)

  pub text_alike : settled (reader_of c) ≡ true → Alike (text_in (lent (reader_of c))) c.text
  text_alike e =
      elim (dec_lt longest (length c.text)) [
        | yes long ↦ Alike.both_long (omega (arith, text_long long)) long
        | no short ↦ Alike.same (shown_whole (omega arith) e)
      ]

-- of lent bytes on which the events were carried out
pub shown_alike : (es : List Event) → settled (run_from fresh es) ≡ true → Alike (text_in (lent_from (lent fresh) es)) (came_from none es).text
shown_alike es e =
    let c = came_from none es in
    subst (λ (s : List ℕ). Alike (text_in s) c.text) (sym (came_bytes es)) (text_alike c (ap settled (sym (run_reader es)) ∙ e))

-- which reads as what came
pub alike_read : {s t : List ℕ} → Alike s t → version_of s ≡ version_of t
alike_read (Alike.same e) = ap version_of e
alike_read {s} {t} (Alike.both_long h k) = long_reading s h ∙ sym (long_reading t k)

-- a count that is not 0 is there to be read
counted_there : (s : List ℕ) → longest < (reader_in s).count → longest < length s
unfolding reader_in
counted_there s h = elim (dec_lt longest (length s)) [
  | yes k ↦ k
  | no k ↦
      let low = get_or-eq_default s 0 {n = 1024} (omega arith) in
      let high = get_or-eq_default s 0 {n = 1025} (omega arith) in
      absurd (omega (arith, low, high))
]

accepted_refused : {x : Refusal} → Accepted ≡ Refused x → ⊥
accepted_refused {x} e = let z : x.number ≡ x.number + 1 = cc in omega (arith, z)

-- a text that is shown and accepted is what is said: before the verdict none is shown, and one that is too long is refused
module _ (s : List ℕ) (accepted : (version_of (text_in s)).verdict ≡ Accepted) where
  shown_by : (b : Bool) → settled (reader_in s) ≡ b → text_in s ≡ take (cond b (reader_in s).count 0) s
  unfolding text_in
  shown_by b e = ap (λ (b : Bool). take (cond b (reader_in s).count 0) s) e

  not_unsettled : settled (reader_in s) ≡ false → ⊥
  not_unsettled e =
      accepted_refused (sym accepted ∙ ap (λ (t : List ℕ). (version_of t).verdict) (shown_by false e) ∙ empty_refused)

  not_overfull : longest < (reader_in s).count → ⊥
  not_overfull h =
      let shown = ap length (shown_by true (long_settled (reader_in s) h)) ∙ length-take (reader_in s).count s in
      let long : longest < length (text_in s) = omega (arith, shown, counted_there s h) in
      accepted_refused (sym accepted ∙ ap (λ (r : VersionReading). r.verdict) (long_reading (text_in s) long))

  there : settled (reader_in s) ≡ true
  there = go (settled (reader_in s)) refl
    where
      go : (b : Bool) → settled (reader_in s) ≡ b → settled (reader_in s) ≡ true
      go true e = e
      go false e = absurd (not_unsettled e)

  within : (reader_in s).count ≤ longest
  within = elim (dec_lt longest (reader_in s).count) [
    | yes h ↦ absurd (not_overfull h)
    | no h ↦ omega arith
  ]

  pub accepted_said : said_by (reader_in s) ≡ given (version_of (text_in s))
  unfolding said_by reader_in
  accepted_said =
      let short = le-ltb longest (reader_in s).count within in
      let ended : (reader_in s).ended ≡ true = rw short at there in
      rw (short, ended)
      (ap (λ (t : List ℕ). given (version_of t)) (take-take (reader_in s).count 1024 s within ∙ sym (shown_by true there)))
