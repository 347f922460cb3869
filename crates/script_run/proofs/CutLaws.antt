-- How a run ends, said of all bytes that the source told.
use Rattle.std.proofs.Common.{◌≡◌, ◌+◌, ◌-◌, ◌≤◌, ◌⊎◌, ℕ, List, [], ◌++◌, Option, None, Some, Bool, false, inl, inr, refl, sym, ap, subst, ◌∙◌, append-nil, take, length, arith}
use Rattle.std.specs.Prelude.{nat_le, codes}
use Rattle.std.proofs.lemmas.List.{take_all, take-append-le}
use Rattle.std.proofs.lemmas.Bool.{le-leb, lt-leb}
use Rattle.std.proofs.Math.Seq.{take-append-add}
use Rattle.std.specs.Io.KnownBytes.{Appends, Consumes}
use Rattle.statements.specs.Views.{StatementView}
use Rattle.bidel_script.specs.Places.{Place, behind_all, place_of, start}
use Rattle.bidel_script.specs.Script.{Comes, Outcome, Fault, Long, Open}
use Rattle.bidel_script.proofs.TokenLaws.{all_are_tokens}
use Rattle.bidel_script.proofs.ScriptLaws.{at_within}
use Rattle.bidel_script.proofs.ComesLaws.{something_comes}
use Rattle.bidel_script.proofs.CutLaws.{faults_stay, fronts_come_first}
use Rattle.bidel_script.proofs.LongLaws.{long_stays}
use Rattle.engine_feeds.specs.EngineCoreTexts.{line}
use Rattle.engine_feeds.specs.Standing.{Standing}
use Rattle.engine_feeds.specs.Replies.{out}
use Rattle.script_run.specs.Statuses.{limit, Taken, whole, early, failed, above, Stopped, Unread, Passed, StoppedOfAll, FirstReplies, fault_line}
use Rattle.script_run.proofs.ToldLemmas.{whole_told, above_told}

-- the bytes that were taken are the first of those that the source told and that count: they are all, or the input may go on behind them
pub record Cut (told bytes : List ℕ) (ended : Bool) : Type 0 where
  pub more : List ℕ
  pub same : take limit told ≡ bytes ++ more
  pub rest : ((more ≡ []) × (nat_le (length told) limit ≡ ended)) ⊎ (ended ≡ false)

front_cut : (told : List ℕ) (left' : Option (List ℕ)) (bytes : List ℕ) (ended : Bool) → Consumes (Some told) left' bytes → length bytes ≤ limit → ended ≡ false → Cut told bytes ended
front_cut told None bytes ended c le fixed = absurd c
front_cut told (Some left) bytes ended c le fixed =
    let count : limit ≡ length bytes + (limit - length bytes) = omega (arith, le) in
    record {
      more = take (limit - length bytes) left;
      same = ap (take limit) c ∙ ap (λ (n : ℕ). take n (bytes ++ left)) count ∙ take-append-add bytes left (limit - length bytes);
      rest = inr fixed;
    }

pub taken_cut : (told : List ℕ) (left' : Option (List ℕ)) (was is : ℕ) (bytes : List ℕ) (ended : Bool) → Taken (Some told) left' was is bytes ended → Cut told bytes ended
taken_cut told left' was is bytes ended (whole c e le stay fixed) =
    let same = whole_told (Some told) left' told bytes refl c e in
    record {
      more = [];
      same = ap (take limit) same ∙ take_all limit bytes le ∙ sym (append-nil bytes);
      rest = inl (refl, le-leb (length told) limit (omega (arith, ap length same, le)) ∙ sym fixed);
    }
taken_cut told left' was is bytes ended (early c le stay fixed) = front_cut told left' bytes ended c le fixed
taken_cut told left' was is bytes ended (failed c le rose fixed) = front_cut told left' bytes ended c le fixed
taken_cut told left' was is bytes ended (above taken c lt same stay fixed) =
    let a = above_told (Some told) left' told taken refl c lt in
    record {
      more = [];
      same = a.1 ∙ sym same ∙ sym (append-nil bytes);
      rest = inl (refl, lt-leb (length told) limit a.0 ∙ sym fixed);
    }

-- where they are all, what comes of them comes of all
all_come : (told bytes more : List ℕ) (ended : Bool) (sts : List StatementView) (o : Outcome) → take limit told ≡ bytes ++ more → more ≡ [] → nat_le (length told) limit ≡ ended
    → Comes bytes ended sts o → Comes (take limit told) (nat_le (length told) limit) sts o
all_come told bytes more ended sts o same none fixed c =
    let all : take limit told ≡ bytes = same ∙ ap (λ (l : List ℕ). bytes ++ l) none ∙ append-nil bytes in
    subst (λ (l : List ℕ). Comes l (nat_le (length told) limit) sts o) (sym all) (subst (λ (b : Bool). Comes bytes b sts o) (sym fixed) c)

pub fault_comes : (told bytes : List ℕ) (ended : Bool) (before : List StatementView) (at : ℕ) → Cut told bytes ended → Comes bytes ended before (Fault at)
    → Comes (take limit told) (nat_le (length told) limit) before (Fault at)
fault_comes told bytes ended before at cut c = elim cut.rest [
  | inl all ↦ all_come told bytes cut.more ended before (Fault at) cut.same all.0 all.1 c
  | inr open' ↦ subst (λ (l : List ℕ). Comes l (nat_le (length told) limit) before (Fault at)) (sym cut.same)
      (faults_stay bytes cut.more (nat_le (length told) limit) before at (subst (λ (b : Bool). Comes bytes b before (Fault at)) open' c))
]

pub long_comes : (told bytes : List ℕ) (ended : Bool) (before : List StatementView) → Cut told bytes ended → Comes bytes ended before Long
    → Comes (take limit told) (nat_le (length told) limit) before Long
long_comes told bytes ended before cut c = elim cut.rest [
  | inl all ↦ all_come told bytes cut.more ended before Long cut.same all.0 all.1 c
  | inr open' ↦ subst (λ (l : List ℕ). Comes l (nat_le (length told) limit) before Long) (sym cut.same)
      (long_stays bytes cut.more (nat_le (length told) limit) before (subst (λ (b : Bool). Comes bytes b before Long) open' c))
]

-- a byte stands where it stands, whatever comes behind it
pub place_stays : (told bytes : List ℕ) (ended : Bool) (before : List StatementView) (at : ℕ) → Cut told bytes ended → Comes bytes ended before (Fault at)
    → place_of (take limit told) at ≡ place_of bytes at
place_stays told bytes ended before at cut c =
    let within = at_within bytes c.tail c.tokens c.used at (all_are_tokens bytes ended c.tokens c.tail c.all) c.behind in
    ap (λ (l : List ℕ). place_of l at) cut.same ∙ ap (behind_all start) (take-append-le at bytes cut.more within)

-- ---- the statuses

module _ (from : Standing) where
  pub stopped_of_all : (left left' held held' : Option (List ℕ)) (was is : ℕ) → Stopped from left left' was is held held' → StoppedOfAll from left held held'
  stopped_of_all None left' held held' was is s = tt
  stopped_of_all (Some told) left' held held' was is s =
      let cut = taken_cut told left' was is s.bytes s.ended s.taken in
      let place = place_stays told s.bytes s.ended s.before s.at cut s.fault in
      (s.before, s.at, fault_comes told s.bytes s.ended s.before s.at cut s.fault, subst (λ (p : Place). Appends held held' (out from s.before ++ fault_line p)) (sym place) s.put)

  replies_first : (told bytes : List ℕ) (ended : Bool) (before : List StatementView) (o : Outcome) (held held' : Option (List ℕ)) (last : List ℕ) → Cut told bytes ended → Comes bytes ended before o
      → Appends held held' (out from before ++ line last) → FirstReplies from (Some told) held held' last
  replies_first told bytes ended before o held held' last cut c put = elim cut.rest [
    | inl all ↦ (
      before,
      [],
      o,
      subst (λ (sts : List StatementView). Comes (take limit told) (nat_le (length told) limit) sts o) (sym (append-nil before)) (all_come told bytes cut.more ended before o cut.same all.0 all.1 c),
      put,
    )
    | inr open' ↦ (let k = something_comes (bytes ++ cut.more) (nat_le (length told) limit) in
        let first = fronts_come_first bytes cut.more (nat_le (length told) limit) before k.0 o k.1 (subst (λ (b : Bool). Comes bytes b before o) open' c) k.2 in (
          before,
          first.0,
          k.1,
          subst (λ (l : List ℕ). Comes l (nat_le (length told) limit) (before ++ first.0) k.1) (sym cut.same)
              (subst (λ (sts : List StatementView). Comes (bytes ++ cut.more) (nat_le (length told) limit) sts k.1) first.1 k.2),
          put,
        ))
  ]

  pub unread_first : (left left' held held' : Option (List ℕ)) (was is : ℕ) → Unread from left left' was is held held' → FirstReplies from left held held' (codes "read fault")
  unread_first None left' held held' was is u = tt
  unread_first (Some told) left' held held' was is u =
      replies_first told u.bytes false u.before Open held held' (codes "read fault") (taken_cut told left' was is u.bytes false (failed u.taken u.within u.cause refl)) u.rest u.put

  pub passed_first : (left left' held held' : Option (List ℕ)) (was is : ℕ) → Passed from left left' was is held held' → FirstReplies from left held held' (codes "too long")
  passed_first None left' held held' was is p = tt
  passed_first (Some told) left' held held' was is p = elim p.long [
    | inl long ↦ replies_first told p.bytes p.ended p.before Long held held' (codes "too long") (taken_cut told left' was is p.bytes p.ended p.taken) long.0 p.put
    | inr open' ↦ replies_first told p.bytes false p.before Open held held' (codes "too long")
        (taken_cut told left' was is p.bytes false (above open'.1 open'.2 (omega (arith, open'.3)) open'.4 open'.5 refl)) open'.0 p.put
  ]
