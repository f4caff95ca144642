-- What the conditions that every call of a seat asks first say to a call that asks more behind them.
pub mod Laws
