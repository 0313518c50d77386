use Rattle.std.proofs.Common.{◌≡◌, ◌⊎◌, ◌↔◌, inl, inr, ⊎_elim, ℤ, ◌≤ℤ◌, Bool, true, false, cond, Option, Some, None, refl, sym, ◌∙◌, subst, rules}
use Rattle.std.specs.Prelude.{IsSome, IfSome, IfNone}
use Rattle.std.specs.Ordering.{is_lt, ord_max, ord_min}
use Rattle.std.proofs.lemmas.Int.{by_lt_z, to_z-of_z}
use Rattle.std.proofs.lemmas.Bool.{false≢true}
use mir.Val.{SFits}
use mir.Syntax.{w64}
use Rattle.time_line.specs.Span.{Ends, Has, IsBefore, IsWithinLimit, IsSpan, start_cmp, stop_cmp}
use Rattle.time_line.proofs.SpanLemmas.{IsMeet-from_ends}
use Rattle.normaliser.specs.Normalised.{IsEndOf}
use Rattle.tgd_chase.specs.Merging.{IsBehind}
use Rattle.tgd_chase.proofs.merging.behind.Goals as goal
use Rattle.tgd_chase.proofs.merging.behind.Goals.{After-make}

-- the later of two starts is one of them
one_of : (b : Bool) (x y : Option ℤ) → (cond b x y ≡ x) ⊎ (cond b x y ≡ y)
one_of true x y = inl refl
one_of false x y = inr refl

-- an absent stop is no earlier than another
earlier_stop : (hi : Option ℤ) → hi ≡ ord_min stop_cmp hi None
earlier_stop None = refl
earlier_stop (Some h) = refl

module _ (done span : Ends) (stop : ℤ) (lo hi : Option ℤ) (is : done.hi ≡ Some stop) (start : lo ≡ ord_max start_cmp span.lo (Some stop))
    (end : hi ≡ span.hi) where
  abbrev part : Ends
  part = record { lo = lo; hi = hi }

  has_part : (t : ℤ) → Has part t ↔ (Has span t × (stop ≤ℤ t))
  has_part t =
      let both = IsMeet-from_ends span (record { lo = Some stop; hi = None }) lo hi start (end ∙ earlier_stop span.hi) t in
      (λ h. let k = both.0 h in (k.0, k.1.0), λ h. both.1 (h.0, (h.1, tt)))

  start_is : (lo ≡ span.lo) ⊎ (lo ≡ Some stop)
  start_is = ⊎_elim (λ e. inl (start ∙ e)) (λ e. inr (start ∙ e)) (one_of (is_lt (start_cmp (Some stop) span.lo)) span.lo (Some stop))

  ends_of : (m : ℤ) → IsEndOf part m → (m ≡ stop) ⊎ IsEndOf span m
  ends_of m (inl e) = ⊎_elim
      (λ (s : lo ≡ span.lo). inr (inl (sym s ∙ e)))
      (λ (s : lo ≡ Some stop). let same : Some m ≡ Some stop = sym e ∙ s in inl cc)
      start_is
  ends_of m (inr e) = inr (inr (sym end ∙ e))

  is_behind : IsSpan part → IsBehind done span part
  is_behind whole = record { stop = stop; is = is; instant = whole.instant; same = has_part; ends = ends_of }

  -- where there is no such span, there is no such instant
  none_behind : ¬ (IsSpan part) → IsSpan done → IsSpan span → (t : ℤ) → Has span t → IsBefore done.hi t
  none_behind none whole_done whole t h =
      by_lt_z t stop
      (λ before. subst (λ end. IsBefore end t) (sym is) before)
      (λ after. absurd (none (record {
        instant = (t, (has_part t).1 (h, after));
        start = ⊎_elim
            (λ (s : lo ≡ span.lo). subst IsWithinLimit (sym s) whole.start)
            (λ (s : lo ≡ Some stop). subst IsWithinLimit (is ∙ sym s) whole_done.stop)
            start_is;
        stop = subst IsWithinLimit (sym end) whole.stop;
      })))

on_some : (o : Option Ends) (e : Ends) (P : Ends → Type 0) → IfSome o (λ s. s ≡ e) → (IsSome o → P e) → IfSome o P
on_some None e P h p = tt
on_some (Some s) e P h p = subst P (sym h) (p refl)

on_none : (o : Option Ends) (Q R : Type 0) → (Q → IsSome o) → (¬ Q → R) → IfNone o R
on_none None Q R there f = f (λ q. absurd (false≢true (there q)))
on_none (Some s) Q R there f = tt

-- the start that is asked for
start_asked : (c : After-make) → c.max.result ≡ ord_max start_cmp c.args.span.now.lo (Some c.in_ok-stop.stop)
start_asked c =
    let fits : SFits w64 c.in_ok-stop.stop = search rules in
    c.max.ensures ∙ (λ i. ord_max start_cmp (c.lo.ensures.end i) (Some (to_z-of_z w64 c.in_ok-stop.stop fits i)))

stop_is : (c : After-make) → c.args.done.now.hi ≡ Some c.in_ok-stop.stop
stop_is c = sym c.hi.ensures.end ∙ c.in_ok-stop.was

pub returns-clause-some : goal.returns-clause-some
returns-clause-some c =
    on_some c.make.result (record { lo = c.max.result; hi = c.hi-2.result }) (IsBehind c.args.done.now c.args.span.now) c.make.ensures.made
    (λ some. is_behind c.args.done.now c.args.span.now c.in_ok-stop.stop c.max.result c.hi-2.result (stop_is c) (start_asked c)
    c.hi-2.ensures.end (c.make.ensures.none_only.0 some))

pub returns-clause-none : goal.returns-clause-none
returns-clause-none c =
    on_none c.make.result (IsSpan (record { lo = c.max.result; hi = c.hi-2.result }))
    ((t : ℤ) → Has c.args.span.now t → IsBefore c.args.done.now.hi t) c.make.ensures.none_only.1
    (λ no. none_behind c.args.done.now c.args.span.now c.in_ok-stop.stop c.max.result c.hi-2.result (stop_is c) (start_asked c)
    c.hi-2.ensures.end no c.hi.ensures.span c.hi-2.ensures.span)
