mod Lent
mod Ranging
mod Rising
mod Told
