-- The words of the kit and of this crate that proofs use, under one name: a proof says what it takes, and this page
-- where it stands.
pub use Prim.Native.Nat.{◌%◌, ◌*◌, ◌+◌, ◌-◌, ◌/◌, ◌<◌, ◌^◌, ◌≤◌, max, min, suc, suc-le-suc, zero, zero-le, ℕ}
pub use borrow.Author.Count.{below_more}
pub use borrow.Author.Rules.{rules}
pub use borrow.Author.Tests.{eq-eqb, eqb-false, eqb-true, le-leb, le-ltb, leb-false, leb-true, lt-leb, lt-ltb}
pub use borrow.Author.Tests.{ltb-false, ltb-true, ne_eqb, not-false, not-true}
pub use denote.Ref.{NamedLft, Bor, MutBor}
pub use lib.Arith.{digits_div, digits_lt, digits_mod}
pub use lib.Bits.{and_mask, bit_and, bit_or, or_shifted}
pub use lib.Dec.{T, T_not, eqb, eqb_refl, eqb→eq, leb, leb→le, le→leb, lit<, lit≤, ltb, ltb→lt, lt→ltb, not_T}
pub use lib.ListN.{get_or-append as get_or-append, get_or-eq_default as get_or-eq_default, get_or-map as get_or-map}
pub use lib.ListN.{drop, drop_of_length-le, get_or}
pub use lib.ListN.{get_or-replicate, length, length-append, length-drop, length-map, length-replicate, length-set}
pub use lib.ListN.{length-take, replicate, set, take, take-append-drop}
pub use lib.Pow.{field, high, low, mod-mod-pow, mod-pow-add, pow-add, pow_mono, pow_pos, shl_exact, shr_lt, shr-shr}
pub use lib.Pow.{split}
pub use lib.Seq.{append_snoc, drop-append-add, drop-append-le, drop_at, drop-cons, drop-drop, drop-length, drop-nil}
pub use lib.Seq.{drop-paste, drop-set-lt, ext_get_or, get_or-append-add, get_or-append_seam, get_or_at, get_or-drop}
pub use lib.Seq.{get_or-set_other, get_or-set_same, get_or-take, length-paste, length-take-le, paste, paste-suc}
pub use lib.Seq.{paste-zero}
pub use lib.Seq.{set_split, slice, slice-cons, slice_empty, split_at, take_all, take-append-add, take-append-le}
pub use lib.Seq.{take-append_seam, take_at, take-nil, take-paste, take-set-lt, take-suc, take-suc-set, take-take}
pub use mathlib.Core.Bool.{Bool, beq as Bool·beq, ◌&&◌, ◌||◌, and_assoc, and-false, and-true, false, not, or_assoc}
pub use mathlib.Core.Bool.{or_comm, or-false, true}
pub use mathlib.Core.List.{List, [], ◌++◌, ◌∷◌, append_assoc, append-nil, map}
pub use mathlib.Core.Logic.{◌↔◌, ◌⊎◌, inl, inr, ⊎_elim}
pub use mathlib.Core.Path.{◌∙◌, ◌≡◌, ap, ap₂, refl, subst, subst₂, sym}
pub use native.Mathlib.Decide.{dec_le, dec_lt, ℕ_discrete}
pub use native.Mathlib.Nat.{add_assoc, add_comm, add-le-add, add-mul, add-mul-div_right, add-zero, div-add-mod'}
pub use native.Mathlib.Nat.{div-eq_of_lt, div-le_of_le-mul, div-lt_iff_lt-mul, div-mul-le_self, le-div_iff_mul-le}
pub use native.Mathlib.Nat.{le-max_left, le-max_right, le-min, le_of_eq, le_of_mul-le-mul_right, le_of_suc-le-suc}
pub use native.Mathlib.Nat.{le_refl, le_trans, lt_of_lt_of_le, lt_of_mul-lt-mul_right, max-eq_left, max-eq_right}
pub use native.Mathlib.Nat.{min_comm, min-eq_left, min-eq_right, min-le_left, min-le_right, mod-add-div'}
pub use native.Mathlib.Nat.{mod-eq_of_lt, mod-lt, mod-one, mul-add-mod_self_right, mul_assoc, mul_comm, mul-le-mul}
pub use native.Mathlib.Nat.{mul-le-mul_right, not-suc-le-zero, one-mul, pow-le-pow_right, pow-suc, pow-zero}
pub use native.Mathlib.Nat.{suc-add, suc-mul, zero-add, zero-min, zero-mul}
pub use native.Mathlib.Numerals.{add-one}
pub use native.Mathlib.Omega.{arith}
pub use Rattle.laws.proofs.Anys.{any_append, any-concat, any-filter, any-image, any-map, any_none, any-union}
pub use Rattle.laws.proofs.Anys.{each-range, each-union}
pub use Rattle.laws.proofs.Arrays.{Filled, fill_more, fill_none, map_more, piece-more, put-at, put-more, take-is}
pub use Rattle.laws.proofs.Arrays.{take_same, within_more}
pub use Rattle.laws.proofs.Elems.{all-each, all_of, at-index, each_at, each_below, each-elem, elem_below}
pub use Rattle.laws.proofs.Elems.{elem-each, elem-filter, elem-range, index_at, index-lt, not-all, once_more}
pub use Rattle.laws.proofs.Elems.{range-once, times_none, times-two, tot-filter-le, →elem-filter}
pub use Rattle.laws.proofs.Extend.{extend-at, extend-more, extend-start, length-extend}
pub use Rattle.laws.proofs.Filters.{concat-first, concat-none, filter-first, filter_none, filter-pos}
pub use Rattle.laws.proofs.Filters.{filter-interval, filter-some, filter-taken, first_head, pick-range}
pub use Rattle.laws.proofs.Firsts.{FirstList, first-at, first-image, first-least, first-no, first-none}
pub use Rattle.laws.proofs.Firsts.{first-nowhere, first_part, first-place, first-union, first-yes, none-lower}
pub use Rattle.laws.proofs.Grids.{grid→, grow-sub, missing-le, rests, →grid}
unfoldable pub use Rattle.laws.proofs.Grids.{missing}
pub use Rattle.laws.proofs.Indexes.{index-elem, index-end, index-free, index-here, index-later}
pub use Rattle.laws.proofs.Lists.{below_all, below-any, below-append, below_at, below-drop, below-replicate}
pub use Rattle.laws.proofs.Lists.{below-take, drop_min, drop-take, get_d_any, get_or-padded, head-none, head-some}
pub use Rattle.laws.proofs.Lists.{length-repeat, sum-append, sum-repeat, sum-replicate, take-replicate}
pub use Rattle.laws.proofs.Lists.{take_rest}
pub use Rattle.laws.proofs.Maps.{all_filter, filter-append, filter-both, filter-concat, filter-filter}
pub use Rattle.laws.proofs.Maps.{filter-fuse, filter_map, filter-never, filter_same, first-filter}
pub use Rattle.laws.proofs.Maps.{map-append, map-concat, map-drop, map_each, map-map, map-take}
pub use Rattle.laws.proofs.Members.{member-blank, member-lt, put-member}
pub use Rattle.laws.proofs.Pigeon.{Twice, once-fits, once-onto, pigeon}
pub use Rattle.laws.proofs.Places.{mod-diff, place-lt, quotient-of, remainder_of}
pub use Rattle.laws.proofs.Ranges.{all-range-false, all-range-true, any-each-same, any_false, any-range-more}
pub use Rattle.laws.proofs.Ranges.{any-range-no, any-range-same, any-true, concat-more, drop-map-range}
pub use Rattle.laws.proofs.Ranges.{first-range-none, is-map, length-map-range, length_run, map-from-append}
pub use Rattle.laws.proofs.Ranges.{map-from-same, map-places, map-range-more, map-range-same, range-more}
pub use Rattle.laws.proofs.Ranges.{tot-more}
pub use Rattle.laws.proofs.Settle.{iterate_fixed, iterate-keeps, iterate-suc, settles}
pub use Rattle.laws.proofs.Sums.{any-each, any→count, count→any, each-always, each-any, each_append}
pub use Rattle.laws.proofs.Sums.{each_back, each_both, each-drop, each-filter, each-front, each-image}
pub use Rattle.laws.proofs.Sums.{each_map, each_take, filter-each, first_passes, image-each, sum-set}
pub use Rattle.laws.proofs.Sums.{tot-add, tot-append, tot-const, tot-eq, tot-filter, tot-le, tot-length}
pub use Rattle.laws.proofs.Sums.{tot-map, tot-some, tot-zero}
pub use Rattle.laws.proofs.Tests.{T→true, Whether, all-below→, all→, and→, any-below→, any→, bool_eq, eqb_is}
pub use Rattle.laws.proofs.Tests.{get_or-map-lt, imp→, length_from, map-range-at, nay, or→, range_at, so, tab→}
pub use Rattle.laws.proofs.Tests.{→all, →all-below, →and, →any, →any-below, →imp, →or_l, →or_r, →tab}
pub use Rattle.laws.proofs.Totals.{each-for, each_set, length-le-sum, never, tot-drop-le, tot-take-add}
pub use Rattle.laws.proofs.Totals.{tot-take-le, tot-take-more, tot-union, union-each}
pub use Rattle.laws.specs.Lists.{all, any, concat, elem, extend, filter, first, from, index_of}
pub use Rattle.laws.specs.Lists.{iterate, range, repeat, sum}
pub use Rattle.laws.specs.Sets.{Pairs, grid, has, member}
pub use Rattle.laws.specs.Sums.{Below, Each, Once, mask, one, times, tot}
