mod CountLemmas
mod FloatLemmas
