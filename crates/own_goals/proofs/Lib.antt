mod Claims
mod Rounds
mod Nexts
mod Recalled
mod Standing
