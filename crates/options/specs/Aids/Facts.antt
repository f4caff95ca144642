-- Document 01, "House options, given at opening", as orders of numbers: what the layers above read of options in range. A least of 0 needs no field.
use Rattle.std.specs.Prelude.{◌≡◌, true, ◌*◌, ◌%◌, ◌≤◌}
use Rattle.options.specs.declared.Options.{Options}
use Rattle.options.specs.Device.{is_box}

pub record InRange (o : Options) : Type 0 where
  pub seats_least : 6 ≤ o.seats
  pub seats_most : o.seats ≤ 9
  pub decks_least : 1 ≤ o.decks
  pub decks_most : o.decks ≤ 8
  pub first_least : 1 ≤ o.first
  pub first_most : o.first ≤ 2
  pub later_most : o.later ≤ 2
  pub hands_least : 2 ≤ o.hands
  pub hands_most : o.hands ≤ 4
  pub aces_most : o.aces ≤ 1
  pub double_least : 1 ≤ o.double
  pub double_most : o.double ≤ 2
  pub limit_most : o.limit ≤ 1
  pub insurance_least : 1 ≤ o.insurance
  pub insurance_most : o.insurance ≤ 2
  pub five_most : o.five ≤ 1
  pub prize_most : o.prize ≤ 1
  pub device_least : 1 ≤ o.device
  pub device_most : o.device ≤ 3
  pub decider_least : 1 ≤ o.decider
  pub decider_most : o.decider ≤ 2
  pub box_decks : is_box o ≡ true → o.decks ≡ 1
  pub box_later : is_box o ≡ true → o.later ≡ 0
  pub cut_most : o.cut ≤ 26 * o.decks
  pub smallest_least : 2 ≤ o.smallest
  pub smallest_most : o.smallest ≤ o.largest
  pub largest_most : o.largest ≤ 1000000
  pub smallest_even : o.smallest % 2 ≡ 0
  pub largest_even : o.largest % 2 ≡ 0
