mod CountLemmas
mod IdLemmas
mod IndexLemmas
mod PairLemmas
