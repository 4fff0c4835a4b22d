use Rattle.std.proofs.Common.{◌≡◌, ◌++◌, ◌∷◌, [], ℕ, List, map, sym, ◌∙◌, ap, subst, append-nil, append_assoc}
use Rattle.std.specs.Prelude.{bytes_eq}
use Rattle.std.specs.Map.Iter.{deref_pair}
use Rattle.jet_items.specs.Frames.{only}
use Rattle.jet_items.specs.Totals.{total}
use Rattle.jet_items.specs.Values.{AccValue}
use Rattle.jet_window.specs.inner.Reached.{SlidesByKey}
use Rattle.jet_window.proofs.Reaching.{KeysUp, key_list, slide_in, keys_up, up_kept, up_skipped, rows_joined, share_kept, share_skipped}
use Rattle.jet_window.proofs.Windowing.{map_push}
use Rattle.jet_window.proofs.held_frames.rows_of.Goals as goal

pub loop-key-init : goal.loop-key-init
loop-key-init c =
    let it : c.into_iter-key-iterator.result ≡ c.args.slides.now.entries = c.into_iter-key-iterator.ensures.into_iter_gives ∙ c.iter-key-items.ensures.rest in
    record {
      each = λ key. ap (total (λ (p : List ℕ × AccValue). only (bytes_eq p.0 key) p.1)) c.new-rows.ensures.items;
      up = subst (λ (rs : List (List ℕ × AccValue)). KeysUp (key_list rs ++ key_list c.into_iter-key-iterator.result)) (sym c.new-rows.ensures.items)
          (subst (λ (es : SlidesByKey). KeysUp (key_list es)) (sym it) (keys_up (key_list c.args.slides.now.entries) c.iter-key-items.ensures.ordered));
      all = it;
    }

pub loop-key-preserved : goal.loop-key-preserved
loop-key-preserved c =
    let pushed = map_push deref_pair c.loop-key.yielded (c.in-Some.key, c.in-Some.slide) in
    record {
      each = λ key. share_skipped key c.loop-key.rows.items (map deref_pair c.loop-key.yielded) c.in-Some.key.now c.in-Some.slide.now (sym c.total.ensures ∙ c.in_default.is) (c.loop-key.invariant.each key) ∙ ap (total (slide_in key)) (sym pushed);
      up = up_skipped (key_list c.loop-key.rows.items) c.in-Some.key.now (key_list c.next.new.self) (key_list c.loop-key.key-iterator) (ap key_list c.in-Some.ensures.steps) c.loop-key.invariant.up;
      all = ap (λ (es : SlidesByKey). es ++ c.next.new.self) pushed ∙ (append_assoc (map deref_pair c.loop-key.yielded) ((c.in-Some.key.now, c.in-Some.slide.now) ∷ []) c.next.new.self
          ∙ (ap (λ (es : SlidesByKey). map deref_pair c.loop-key.yielded ++ es) (sym c.in-Some.ensures.steps) ∙ c.loop-key.invariant.all));
    }

pub loop-key-preserved-in-Continue-1 : goal.loop-key-preserved-in-Continue-1
loop-key-preserved-in-Continue-1 c =
    let pushed = map_push deref_pair c.loop-key.yielded (c.in-Some.key, c.in-Some.slide) in
    let k : List ℕ = c.in-Some.key.now in
    let a : AccValue = c.in-Some-total.acc in
    let items : c.push_back.new.self.items ≡ c.loop-key.rows.items ++ (k, a) ∷ [] = c.in_ok-push_back.ensures.items in
    record {
      each = λ key. ap (total (λ (p : List ℕ × AccValue). only (bytes_eq p.0 key) p.1)) items
          ∙ (share_kept key c.loop-key.rows.items (map deref_pair c.loop-key.yielded) k c.in-Some.slide.now a (sym c.total.ensures ∙ c.in-Some-total.is) (c.loop-key.invariant.each key) ∙ ap (total (slide_in key)) (sym pushed));
      up = subst (λ (rs : List (List ℕ × AccValue)). KeysUp (key_list rs ++ key_list c.next.new.self)) (sym items)
          (up_kept c.loop-key.rows.items k a (key_list c.next.new.self) (key_list c.loop-key.key-iterator) (ap key_list c.in-Some.ensures.steps) c.loop-key.invariant.up);
      all = ap (λ (es : SlidesByKey). es ++ c.next.new.self) pushed ∙ (append_assoc (map deref_pair c.loop-key.yielded) ((c.in-Some.key.now, c.in-Some.slide.now) ∷ []) c.next.new.self
          ∙ (ap (λ (es : SlidesByKey). map deref_pair c.loop-key.yielded ++ es) (sym c.in-Some.ensures.steps) ∙ c.loop-key.invariant.all));
    }

pub returns : goal.returns
returns c =
    let none : c.loop-key.key-iterator ≡ [] = c.in-None.ensures.steps.0 in
    let all : map deref_pair c.loop-key.yielded ≡ c.args.slides.now.entries = sym (append-nil (map deref_pair c.loop-key.yielded)) ∙ (ap (λ (es : SlidesByKey). map deref_pair c.loop-key.yielded ++ es) (sym none) ∙ c.loop-key.invariant.all) in
    let up : KeysUp (key_list c.loop-key.rows.items) = subst KeysUp (append-nil (key_list c.loop-key.rows.items)) (subst (λ (es : SlidesByKey). KeysUp (key_list c.loop-key.rows.items ++ key_list es)) none c.loop-key.invariant.up) in
    let slides_up : KeysUp (key_list c.args.slides.now.entries) = keys_up (key_list c.args.slides.now.entries) c.iter-key-items.ensures.ordered in
    rows_joined c.args.slides.now.entries c.loop-key.rows.items slides_up (λ key. c.loop-key.invariant.each key ∙ ap (total (slide_in key)) all) up
