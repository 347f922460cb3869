use Rattle.std.proofs.Common.{◌≡◌, ◌-◌, ◌<◌, [], ◌∷◌, ◌++◌, length, Some, None, sym, ap, ap₂, ◌∙◌, arith, rules}
use Rattle.json.specs.Json.{Json, array, object, parse_map, after_end_array, read_key, items, members, value}
use Rattle.json.specs.Reads.{token_of}
use Rattle.json.specs.Value.{items_view, members_view, value_view}
use Rattle.json.specs.declared.value.Value.{String, Number, Bool, Null, the_lemmas}
use Rattle.json.proofs.Grammar.{value_is, value-begin_array, value-begin_object, read_key-shorter, items_end, items_fail, items_more, members_end, members_no_key, members_fail, members_more}
use Rattle.json.proofs.Trees.{items_before, members_before, items_before-no_items, members_before-no_members, one_more_item, one_more_member, view-Array, view-Object}
use Rattle.json_members.proofs.reading.+read.Goals as goal

pub next_tree-returns-in_default-clause-value : goal.next_tree-returns-in_default-clause-value
next_tree-returns-in_default-clause-value t c =
    let empty : c.args.reader.now ≡ [] = grind arith in
    ap (value c.args.depth) empty ∙ value_is c.args.depth []

pub next_tree-returns-then-depth-eq0-clause-value : goal.next_tree-returns-then-depth-eq0-clause-value
unfolding value
next_tree-returns-then-depth-eq0-clause-value t c =
    let none : c.args.depth ≡ 0 = omega arith in
    ap₂ value none (c.in-Some.ensures.value ∙ ap (λ k. token_of k ∷ c.next.new.self) c.in-BeginArray.is)

pub next_tree-returns-then-depth-eq0-2-clause-value : goal.next_tree-returns-then-depth-eq0-2-clause-value
unfolding value
next_tree-returns-then-depth-eq0-2-clause-value t c =
    let none : c.args.depth ≡ 0 = omega arith in
    ap₂ value none (c.in-Some.ensures.value ∙ ap (λ k. token_of k ∷ c.next.new.self) c.in-BeginObject.is)

pub next_tree-returns-in-String-clause-value : goal.next_tree-returns-in-String-clause-value
next_tree-returns-in-String-clause-value t c =
    let is = c.in-Some.ensures.value ∙ ap (λ k. token_of k ∷ c.next.new.self) c.in-String.is in
    let seen : value_view (String c.in-String.text) ≡ Json.string c.in-String.text.now = search (rules, the_lemmas) in
    ap (value c.args.depth) is ∙ value_is c.args.depth _ ∙ ap (λ j. Some (j, c.next.new.self)) (sym seen)

pub next_tree-returns-in-Number-clause-value : goal.next_tree-returns-in-Number-clause-value
next_tree-returns-in-Number-clause-value t c =
    let is = c.in-Some.ensures.value ∙ ap (λ k. token_of k ∷ c.next.new.self) c.in-Number.is in
    let seen : value_view (Number c.in-Number.text) ≡ Json.number c.in-Number.text.now = search (rules, the_lemmas) in
    ap (value c.args.depth) is ∙ value_is c.args.depth _ ∙ ap (λ j. Some (j, c.next.new.self)) (sym seen)

pub next_tree-returns-in-Bool-clause-value : goal.next_tree-returns-in-Bool-clause-value
next_tree-returns-in-Bool-clause-value t c =
    let is = c.in-Some.ensures.value ∙ ap (λ k. token_of k ∷ c.next.new.self) c.in-Bool.is in
    let seen : value_view (Bool c.in-Bool.truth) ≡ Json.boolean c.in-Bool.truth = search (rules, the_lemmas) in
    ap (value c.args.depth) is ∙ value_is c.args.depth _ ∙ ap (λ j. Some (j, c.next.new.self)) (sym seen)

pub next_tree-returns-in-Null-clause-value : goal.next_tree-returns-in-Null-clause-value
next_tree-returns-in-Null-clause-value t c =
    let is = c.in-Some.ensures.value ∙ ap (λ k. token_of k ∷ c.next.new.self) c.in-Null.is in
    let seen : value_view Null ≡ Json.null = search (rules, the_lemmas) in
    ap (value c.args.depth) is ∙ value_is c.args.depth _ ∙ ap (λ j. Some (j, c.next.new.self)) (sym seen)

pub next_tree-returns-in-EndObject-clause-value : goal.next_tree-returns-in-EndObject-clause-value
next_tree-returns-in-EndObject-clause-value t c = rw (value_is c.args.depth c.args.reader.now, c.in-Some.ensures.value) (grind arith)

pub next_tree-returns-in-Some-2-clause-value : goal.next_tree-returns-in-Some-2-clause-value
next_tree-returns-in-Some-2-clause-value t c =
    let opened = ap (value c.args.depth) (c.in-Some.ensures.value ∙ ap (λ k. token_of k ∷ c.next.new.self) c.in-BeginArray.is) ∙ value-begin_array c.args.depth c.next.new.self (omega arith) in
    let found : items (value (c.args.depth - 1)) (length c.next.new.self) c.next.new.self ≡ Some (items_view c.in-Some-2.items.items, c.read_items.new.reader) =
    rw c.in-Some-2.is at c.in_ok-items-in-BeginArray.ensures.value in
    opened ∙ ap (parse_map array) found ∙ ap (λ j. Some (j, c.read_items.new.reader)) (sym (view-Array c.in-Some-2.items))

pub next_tree-returns-in-None-clause-value : goal.next_tree-returns-in-None-clause-value
next_tree-returns-in-None-clause-value t c =
    let opened = ap (value c.args.depth) (c.in-Some.ensures.value ∙ ap (λ k. token_of k ∷ c.next.new.self) c.in-BeginArray.is) ∙ value-begin_array c.args.depth c.next.new.self (omega arith) in
    let failed : items (value (c.args.depth - 1)) (length c.next.new.self) c.next.new.self ≡ None = rw c.in-None.is at c.in_ok-items-in-BeginArray.ensures.value in
    opened ∙ ap (parse_map array) failed

pub next_tree-returns-in-Some-3-clause-value : goal.next_tree-returns-in-Some-3-clause-value
next_tree-returns-in-Some-3-clause-value t c =
    let opened = ap (value c.args.depth) (c.in-Some.ensures.value ∙ ap (λ k. token_of k ∷ c.next.new.self) c.in-BeginObject.is) ∙ value-begin_object c.args.depth c.next.new.self (omega arith) in
    let found : members (value (c.args.depth - 1)) (length c.next.new.self) c.next.new.self ≡ Some (members_view c.in-Some-3.members.items, c.read_members.new.reader) =
    rw c.in-Some-3.is at c.in_ok-members-in-BeginObject.ensures.value in
    opened ∙ ap (parse_map object) found ∙ ap (λ j. Some (j, c.read_members.new.reader)) (sym (view-Object c.in-Some-3.members))

pub next_tree-returns-in-None-2-clause-value : goal.next_tree-returns-in-None-2-clause-value
next_tree-returns-in-None-2-clause-value t c =
    let opened = ap (value c.args.depth) (c.in-Some.ensures.value ∙ ap (λ k. token_of k ∷ c.next.new.self) c.in-BeginObject.is) ∙ value-begin_object c.args.depth c.next.new.self (omega arith) in
    let failed : members (value (c.args.depth - 1)) (length c.next.new.self) c.next.new.self ≡ None = rw c.in-None-2.is at c.in_ok-members-in-BeginObject.ensures.value in
    opened ∙ ap (parse_map object) failed

pub read_items-returns-in_default-clause-value : goal.read_items-returns-in_default-clause-value
read_items-returns-in_default-clause-value t c =
    let p = value c.args.depth in
    let l = c.loop-alloc in
    let n = l.invariant.0 in
    let going : (after_end_array l.reader ≡ None) × (c.take_end_array.new.self ≡ l.reader) = grind arith in
    let failed : p c.take_end_array.new.self ≡ None = rw c.in_default.is at c.in_ok-item.ensures.value in
    l.invariant.2 ∙ ap (parse_map (items_before l.found.items)) (items_fail p n l.reader going.0 (rw (← going.1) failed))

pub read_items-loop-alloc-preserved : goal.read_items-loop-alloc-preserved
read_items-loop-alloc-preserved t c =
    let p = value c.args.depth in
    let l = c.loop-alloc in
    let n = l.invariant.0 in
    let going : (after_end_array l.reader ≡ None) × (c.take_end_array.new.self ≡ l.reader) = grind arith in
    let v = c.in-Some.item in
    let r = c.next_tree.new.reader in
    let done : p c.take_end_array.new.self ≡ Some (value_view v, r) = rw c.in-Some.is at c.in_ok-item.ensures.value in
    let shorter : length r < length c.take_end_array.new.self = rw c.in-Some.is at c.in_ok-item.ensures.shorter in
    let less : length r < length l.reader = rw (← going.1) shorter in
    let pushed : c.push_tight.new.items.items ≡ l.found.items ++ v ∷ [] = c.in_ok-push_tight.ensures in
    let turn = items_more p n l.reader r (value_view v) (omega (arith, l.invariant.1)) going.0 (rw (← going.1) done) in (
      n - 1,
      omega (arith, l.invariant.1),
      l.invariant.2 ∙ ap (parse_map (items_before l.found.items)) turn ∙ one_more_item l.found.items v _ ∙ ap (λ vs. parse_map (items_before vs) (items p (n - 1) r)) (sym pushed),
      omega (arith, l.invariant.3),
    )

pub read_items-returns-clause-value : goal.read_items-returns-clause-value
read_items-returns-clause-value t c =
    let p = value c.args.depth in
    let l = c.loop-alloc in
    let n = l.invariant.0 in
    let r = c.take_end_array.new.self in
    l.invariant.2 ∙ ap (parse_map (items_before l.found.items)) (items_end p n l.reader r l.invariant.1 (grind arith)) ∙ ap (λ js. Some (js, r)) (items_before-no_items l.found.items)
    ∙ ap (λ vs. Some (items_view vs, r)) (sym c.shrink_to_fit.ensures.items)

pub read_members-returns-in_default-clause-value : goal.read_members-returns-in_default-clause-value
read_members-returns-in_default-clause-value t c =
    let p = value c.args.depth in
    let l = c.loop-key in
    let n = l.invariant.0 in
    let k = c.in-Ok-Some.key.now in
    let s = c.next_key.new.self in
    let key : read_key l.reader ≡ Some (Some k, s) = rw c.in-Ok-Some.field-0-is at c.in-Ok-Some.ensures.value in
    let failed : p s ≡ None = rw c.in_default.is at c.in_ok-member-in-Ok-Some.ensures.value in
    l.invariant.2 ∙ ap (parse_map (members_before l.found.items)) (members_fail p n k l.reader s key failed)

pub read_members-loop-key-preserved : goal.read_members-loop-key-preserved
read_members-loop-key-preserved t c =
    let p = value c.args.depth in
    let l = c.loop-key in
    let n = l.invariant.0 in
    let k = c.in-Ok-Some.key.now in
    let s = c.next_key.new.self in
    let key : read_key l.reader ≡ Some (Some k, s) = rw c.in-Ok-Some.field-0-is at c.in-Ok-Some.ensures.value in
    let v = c.in-Some.member in
    let r = c.next_tree.new.reader in
    let done : p s ≡ Some (value_view v, r) = rw c.in-Some.is at c.in_ok-member-in-Ok-Some.ensures.value in
    let less = read_key-shorter l.reader (Some k) s key in
    let lesser : length r < length s = rw c.in-Some.is at c.in_ok-member-in-Ok-Some.ensures.shorter in
    let pushed : c.push.new.self.items ≡ l.found.items ++ (c.in-Ok-Some.key, v) ∷ [] = c.in_ok-push-in-Ok-Some.ensures.items in
    let turn = members_more p n k l.reader s r (value_view v) (omega (arith, l.invariant.1)) key done in (
      n - 1,
      omega (arith, l.invariant.1),
      l.invariant.2 ∙ ap (parse_map (members_before l.found.items)) turn ∙ one_more_member l.found.items (c.in-Ok-Some.key, v) _
          ∙ ap (λ ms. parse_map (members_before ms) (members p (n - 1) r)) (sym pushed),
      omega (arith, l.invariant.3),
    )

pub read_members-returns-in-Ok-None-clause-value : goal.read_members-returns-in-Ok-None-clause-value
read_members-returns-in-Ok-None-clause-value t c =
    let p = value c.args.depth in
    let l = c.loop-key in
    let n = l.invariant.0 in
    let r = c.next_key.new.self in
    let ended : read_key l.reader ≡ Some (None, r) = rw c.in-Ok-None.field-0-is at c.in-Ok-None.ensures.value in
    l.invariant.2 ∙ ap (parse_map (members_before l.found.items)) (members_end p n l.reader r l.invariant.1 ended) ∙ ap (λ ms. Some (ms, r)) (members_before-no_members l.found.items)

pub read_members-returns-in-Err-clause-value : goal.read_members-returns-in-Err-clause-value
read_members-returns-in-Err-clause-value t c =
    let p = value c.args.depth in
    let l = c.loop-key in
    l.invariant.2 ∙ ap (parse_map (members_before l.found.items)) (members_no_key p l.invariant.0 l.reader c.in-Err.ensures.value)
